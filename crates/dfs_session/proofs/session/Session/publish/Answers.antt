use Rattle.std.proofs.Common.{◌≡◌, ◌∙◌, true, false, Option, length, refl, sym, ap, subst, arith}
use Rattle.std.proofs.lemmas.Bool.{le-leb, lt-leb}
use Rattle.std.specs.Prelude.{IsSome, nat_le, is_some}
use Rattle.dfs_host.proofs.Causes.{none_yet}
use Rattle.dfs_reply.specs.declared.Reply.TheVariants.{Error}
use Rattle.dfs_reply.specs.declared.Word.TheVariants as word
use Rattle.dfs_job.specs.Job.{Job}
use Rattle.dfs_session.specs.Selected.{is_listed}
use Rattle.dfs_job.specs.declared.job.Job.{Job as LiveJob}
use Rattle.dfs_session.specs.Session.{Step, live_job, of_live, publishes}
use Rattle.dfs_session.specs.Sound.{listed_in, live_in}
use Rattle.dfs_session.specs.Worked.{IsError, PublicationPasses, publishing, publishing_anew}
use Rattle.dfs_session.proofs.Changing.{no_job, found_job, some_of, none_of}
use Rattle.dfs_session.proofs.Choosing.{publishes_as, publishes_as_anew, any_found, after_reads, not_refused}
use Rattle.dfs_host.proofs.Moments.{reads_nothing}
use Rattle.dfs_session.proofs.Lists.{lent_some}
use Rattle.dfs_session.proofs.Working.{stays_in_memory}
use Rattle.dfs_session.proofs.Writing.{file_idle}
use Rattle.dfs_session.proofs.session.Session.publish.Goals as goal

pub returns-then-not-contains_key-clause-worked : goal.returns-then-not-contains_key-clause-worked
returns-then-not-contains_key-clause-worked g c =
    let session = c.args.self.now in
    let host = g.H.Host.state c.args.host.now in
    let w = c.args.word.now in
    stays_in_memory host session session.jobs (publishing w c.args.name) (Error word.NoJob) c.text_of.result refl refl c.requires
    (λ s tells stands. ap (λ (o : Option Job). of_live o s (λ j. publishes s w j c.args.name)) (no_job host session s w stands (none_of (live_in session w) (sym c.if-not-contains_key.ensures))))
    c.text_of.ensures.text c.text_of.ensures.memory

pub returns-then-is_some-clause-worked : goal.returns-then-is_some-clause-worked
returns-then-is_some-clause-worked g c =
    let session = c.args.self.now in
    let host = g.H.Host.state c.args.host.now in
    let w = c.args.word.now in
    let name = c.args.name in
    let live = some_of (live_in session w) (sym c.if-not-contains_key.ensures) in
    let taken : true ≡ is_listed (listed_in session) name = c.if-is_some.ensures ∙ sym (lent_some c.find.result) ∙ ap is_some c.find.ensures in
    stays_in_memory host session session.jobs (publishing w name) (Error word.Taken) c.text_of-then-is_some.result refl refl c.requires
    (λ s tells stands. publishes_as host session s w live.0 name stands (found_job host session s w live.0 stands live.1) true (nat_le 4096 (length (listed_in session))) taken refl)
    c.text_of-then-is_some.ensures.text c.text_of-then-is_some.ensures.memory

pub returns-then-count-ge-MOST_PUBLICATIONS-clause-worked : goal.returns-then-count-ge-MOST_PUBLICATIONS-clause-worked
returns-then-count-ge-MOST_PUBLICATIONS-clause-worked g c =
    let session = c.args.self.now in
    let host = g.H.Host.state c.args.host.now in
    let w = c.args.word.now in
    let name = c.args.name in
    let live = some_of (live_in session w) (sym c.if-not-contains_key.ensures) in
    let anew : false ≡ is_listed (listed_in session) name = c.if-is_some.ensures ∙ sym (lent_some c.find.result) ∙ ap is_some c.find.ensures in
    let full : true ≡ nat_le 4096 (length (listed_in session)) = sym (le-leb 4096 (length (listed_in session)) (omega (arith, c.if-count-ge-MOST_PUBLICATIONS.true, c.count.ensures.count))) in
    stays_in_memory host session session.jobs (publishing w name) (Error word.Full) c.text_of-then-count-ge-MOST_PUBLICATIONS.result refl refl c.requires
    (λ s tells stands. publishes_as host session s w live.0 name stands (found_job host session s w live.0 stands live.1) false true anew full)
    c.text_of-then-count-ge-MOST_PUBLICATIONS.ensures.text c.text_of-then-count-ge-MOST_PUBLICATIONS.ensures.memory

pub publish_anew-requires-clause-anew : goal.publish_anew-requires-clause-anew
publish_anew-requires-clause-anew g c =
    any_found c.args.name (listed_in c.args.self.now) ∙ sym (c.if-is_some.ensures ∙ sym (lent_some c.find.result) ∙ ap is_some c.find.ensures)

pub returns-clause-worked : goal.returns-clause-worked
returns-clause-worked g c =
    let session = c.args.self.now in
    let host = g.H.Host.state c.args.host.now in
    let after = g.H.Host.state c.publish_anew.new.host in
    let w = c.args.word.now in
    let name = c.args.name in
    let live = some_of (live_in session w) (sym c.if-not-contains_key.ensures) in
    let anew : false ≡ is_listed (listed_in session) name = c.if-is_some.ensures ∙ sym (lent_some c.find.result) ∙ ap is_some c.find.ensures in
    let few : false ≡ nat_le 4096 (length (listed_in session)) = sym (lt-leb 4096 (length (listed_in session)) (omega (arith, c.if-count-ge-MOST_PUBLICATIONS.false, c.count.ensures.count))) in
    after_reads host host after session c.publish_anew.new.self (publishing w name) (publishing_anew w name) c.publish_anew.result c.requires (reads_nothing host) (none_yet host)
    (λ s tells stands. publishes_as_anew host session s w live.0 name stands (found_job host session s w live.0 stands live.1) anew few) (λ s. refl) (λ t. refl)
    c.publish_anew.ensures.worked (λ quiet. absurd quiet) refl refl refl
    (λ s tells stands many. (not_refused session s w name stands (found_job host session s w live.0 stands live.1) anew few, many)) refl

pub returns-then-not-contains_key-clause-too_many : goal.returns-then-not-contains_key-clause-too_many
returns-then-not-contains_key-clause-too_many g c = λ s tells stands many.
    let w = c.args.word.now in
    absurd (subst (λ (o : Option LiveJob). PublicationPasses o (live_job s w)) (none_of (live_in c.args.self.now w) (sym c.if-not-contains_key.ensures)) many.1)

pub returns-then-is_some-clause-too_many : goal.returns-then-is_some-clause-too_many
returns-then-is_some-clause-too_many g c = λ s tells stands many.
    let session = c.args.self.now in
    let host = g.H.Host.state c.args.host.now in
    let w = c.args.word.now in
    let name = c.args.name in
    let live = some_of (live_in session w) (sym c.if-not-contains_key.ensures) in
    let taken : true ≡ is_listed (listed_in session) name = c.if-is_some.ensures ∙ sym (lent_some c.find.result) ∙ ap is_some c.find.ensures in
    absurd (many.0 (subst (λ (t : Step). IsError t.reply) (sym (publishes_as host session s w live.0 name stands (found_job host session s w live.0 stands live.1) true (nat_le 4096 (length (listed_in session))) taken refl)) tt))

pub returns-then-count-ge-MOST_PUBLICATIONS-clause-too_many : goal.returns-then-count-ge-MOST_PUBLICATIONS-clause-too_many
returns-then-count-ge-MOST_PUBLICATIONS-clause-too_many g c = λ s tells stands many.
    let session = c.args.self.now in
    let host = g.H.Host.state c.args.host.now in
    let w = c.args.word.now in
    let name = c.args.name in
    let live = some_of (live_in session w) (sym c.if-not-contains_key.ensures) in
    let anew : false ≡ is_listed (listed_in session) name = c.if-is_some.ensures ∙ sym (lent_some c.find.result) ∙ ap is_some c.find.ensures in
    let full : true ≡ nat_le 4096 (length (listed_in session)) = sym (le-leb 4096 (length (listed_in session)) (omega (arith, c.if-count-ge-MOST_PUBLICATIONS.true, c.count.ensures.count))) in
    absurd (many.0 (subst (λ (t : Step). IsError t.reply) (sym (publishes_as host session s w live.0 name stands (found_job host session s w live.0 stands live.1) false true anew full)) tt))

pub returns-clause-too_many : goal.returns-clause-too_many
returns-clause-too_many g c = λ s tells stands many. c.publish_anew.ensures.too_many s tells stands many.1

pub returns-then-not-contains_key-clause-at_once : goal.returns-then-not-contains_key-clause-at_once
returns-then-not-contains_key-clause-at_once g c = λ s tells stands is. (c.text_of.ensures.memory, refl)

pub returns-then-is_some-clause-at_once : goal.returns-then-is_some-clause-at_once
returns-then-is_some-clause-at_once g c = λ s tells stands is. (c.text_of-then-is_some.ensures.memory, refl)

pub returns-then-count-ge-MOST_PUBLICATIONS-clause-at_once : goal.returns-then-count-ge-MOST_PUBLICATIONS-clause-at_once
returns-then-count-ge-MOST_PUBLICATIONS-clause-at_once g c = λ s tells stands is. (c.text_of-then-count-ge-MOST_PUBLICATIONS.ensures.memory, refl)

pub returns-clause-at_once : goal.returns-clause-at_once
returns-clause-at_once g c = λ s tells stands is.
    let session = c.args.self.now in
    let host = g.H.Host.state c.args.host.now in
    let w = c.args.word.now in
    let name = c.args.name in
    let live = some_of (live_in session w) (sym c.if-not-contains_key.ensures) in
    let anew : false ≡ is_listed (listed_in session) name = c.if-is_some.ensures ∙ sym (lent_some c.find.result) ∙ ap is_some c.find.ensures in
    let few : false ≡ nat_le 4096 (length (listed_in session)) = sym (lt-leb 4096 (length (listed_in session)) (omega (arith, c.if-count-ge-MOST_PUBLICATIONS.false, c.count.ensures.count))) in
    absurd (not_refused session s w name stands (found_job host session s w live.0 stands live.1) anew few is)

pub returns-then-not-contains_key-clause-faults : goal.returns-then-not-contains_key-clause-faults
returns-then-not-contains_key-clause-faults g c = λ fault tells is other. file_idle 0 (g.H.Host.state c.args.host.now)

pub returns-then-is_some-clause-faults : goal.returns-then-is_some-clause-faults
returns-then-is_some-clause-faults g c = λ fault tells is other. file_idle 0 (g.H.Host.state c.args.host.now)

pub returns-then-count-ge-MOST_PUBLICATIONS-clause-faults : goal.returns-then-count-ge-MOST_PUBLICATIONS-clause-faults
returns-then-count-ge-MOST_PUBLICATIONS-clause-faults g c = λ fault tells is other. file_idle 0 (g.H.Host.state c.args.host.now)

pub returns-then-not-contains_key-clause-sealed : goal.returns-then-not-contains_key-clause-sealed
returns-then-not-contains_key-clause-sealed g c = λ s tells stands free.
    let session = c.args.self.now in
    let w = c.args.word.now in
    absurd (free (subst (λ (o : Option Job). IsError (of_live o s (λ j. publishes s w j c.args.name)).reply) (sym (no_job (g.H.Host.state c.args.host.now) session s w stands (none_of (live_in session w) (sym c.if-not-contains_key.ensures)))) tt))

pub returns-then-is_some-clause-sealed : goal.returns-then-is_some-clause-sealed
returns-then-is_some-clause-sealed g c = λ s tells stands free.
    let session = c.args.self.now in
    let host = g.H.Host.state c.args.host.now in
    let w = c.args.word.now in
    let name = c.args.name in
    let live = some_of (live_in session w) (sym c.if-not-contains_key.ensures) in
    let taken : true ≡ is_listed (listed_in session) name = c.if-is_some.ensures ∙ sym (lent_some c.find.result) ∙ ap is_some c.find.ensures in
    absurd (free (subst (λ (t : Step). IsError t.reply) (sym (publishes_as host session s w live.0 name stands (found_job host session s w live.0 stands live.1) true (nat_le 4096 (length (listed_in session))) taken refl)) tt))

pub returns-then-count-ge-MOST_PUBLICATIONS-clause-sealed : goal.returns-then-count-ge-MOST_PUBLICATIONS-clause-sealed
returns-then-count-ge-MOST_PUBLICATIONS-clause-sealed g c = λ s tells stands free.
    let session = c.args.self.now in
    let host = g.H.Host.state c.args.host.now in
    let w = c.args.word.now in
    let name = c.args.name in
    let live = some_of (live_in session w) (sym c.if-not-contains_key.ensures) in
    let anew : false ≡ is_listed (listed_in session) name = c.if-is_some.ensures ∙ sym (lent_some c.find.result) ∙ ap is_some c.find.ensures in
    let full : true ≡ nat_le 4096 (length (listed_in session)) = sym (le-leb 4096 (length (listed_in session)) (omega (arith, c.if-count-ge-MOST_PUBLICATIONS.true, c.count.ensures.count))) in
    absurd (free (subst (λ (t : Step). IsError t.reply) (sym (publishes_as host session s w live.0 name stands (found_job host session s w live.0 stands live.1) false true anew full)) tt))

pub returns-clause-sealed : goal.returns-clause-sealed
returns-clause-sealed g c = λ s tells stands free.
    let session = c.args.self.now in
    let host = g.H.Host.state c.args.host.now in
    let w = c.args.word.now in
    let live = some_of (live_in session w) (sym c.if-not-contains_key.ensures) in
    c.publish_anew.ensures.sealed s tells stands (subst (λ (o : Option Job). IsSome o) (sym (found_job host session s w live.0 stands live.1).found) refl)
