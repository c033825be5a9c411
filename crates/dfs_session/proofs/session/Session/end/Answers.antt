use Rattle.std.proofs.Common.{refl, ap, sym}
use Rattle.dfs_session.specs.Session.{ends, of_live, without_job}
use Rattle.dfs_reply.specs.declared.Reply.TheVariants.{Ok as OkReply, Error}
use Rattle.dfs_reply.specs.declared.Word.TheVariants as word
use Rattle.dfs_session.proofs.Changing.{ended_worked, no_job}
use Rattle.dfs_session.specs.Worked.{plain}
use Rattle.dfs_session.proofs.Working.{stays_in_memory}
use Rattle.dfs_session.proofs.session.Session.end.Goals as goal

pub returns-in_default-clause-worked : goal.returns-in_default-clause-worked
returns-in_default-clause-worked c =
    let session = c.args.self.now in
    let w = c.args.word.now in
    λ host sound.
    stays_in_memory host session c.remove.new.self (plain (λ s. ends s w)) (Error word.NoJob) c.text_of.result c.in_default.ensures.unchanged refl sound
    (λ s tells stands. ap (λ o. of_live o s (λ j. record { session = without_job s w; reply = OkReply })) (no_job host session s w stands (sym c.in_default.ensures.value)))
    c.text_of.ensures.text c.text_of.ensures.memory

pub returns-clause-worked : goal.returns-clause-worked
returns-clause-worked c =
    let session = c.args.self.now in
    let ended = c.end.ensures in
    λ host sound.
    ended_worked host session c.args.word.now c.in-Some.job c.remove.new.self c.end.new.self c.text_of-2.result sound (sym c.in-Some.ensures.value) c.remove.ensures.entries (record { indexed = ended.indexed; here = ended.ended; others = ended.others })
    c.text_of-2.ensures.text c.text_of-2.ensures.memory

pub end-requires : goal.end-requires
end-requires c = c.requires.kept
