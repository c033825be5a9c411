use Rattle.std.proofs.Common.{◌≡◌, ℕ, refl, ap, subst, sym, Err}
use Rattle.std.specs.Global.{Vec}
use Rattle.dfs_host.specs.declared.fault.Fault.TheVariants.{NoMemory}
use Rattle.dfs_host.proofs.Causes.{none_yet}
use Rattle.dfs_reply.specs.declared.Reply.TheVariants.{Error}
use Rattle.dfs_reply.specs.declared.Word.TheVariants as word
use Rattle.dfs_script.specs.declared.LineFault.{LineFault}
use Rattle.dfs_script.specs.declared.LineFault.TheVariants.{Long, Syntax}
use Rattle.dfs_script.specs.Line.{meaning}
use Rattle.dfs_script.specs.Read.{IsSaid}
use Rattle.dfs_session.specs.Session.{after_meaning}
use Rattle.dfs_session.proofs.Choosing.{read_fault_worked}
use Rattle.dfs_host.proofs.Moments.{reads_nothing}
use Rattle.dfs_session.specs.Worked.{names_by, of_line, settings_by}
use Rattle.dfs_session.proofs.Handed.{memory_not_full}
use Rattle.dfs_session.proofs.Reading.{same_once}
use Rattle.dfs_session.proofs.Working.{memory_cause, stays_in_memory}
use Rattle.dfs_session.proofs.Writing.{file_idle}
use Rattle.dfs_session.proofs.session.Session.work.Goals as goal

pub returns-in-Err-Long-clause-worked : goal.returns-in-Err-Long-clause-worked
returns-in-Err-Long-clause-worked g c =
    let host = g.H.Host.state c.args.host.now in
    let session = c.args.self.now in
    let line = c.args.line.now in
    let is : meaning line ≡ Err Long = subst (λ (fault : LineFault). IsSaid (Err fault) (meaning line)) c.in-Err-Long.field-0-is c.in-Err-Long.ensures.meaning in
    stays_in_memory host session session.jobs (of_line line) (Error word.Long) c.text_of.result refl (sym (ap (λ m. settings_by session.settings m) is)) c.requires (λ s tells stands. ap (after_meaning s) is) c.text_of.ensures.text c.text_of.ensures.memory

pub returns-in-Err-Syntax-clause-worked : goal.returns-in-Err-Syntax-clause-worked
returns-in-Err-Syntax-clause-worked g c =
    let host = g.H.Host.state c.args.host.now in
    let session = c.args.self.now in
    let line = c.args.line.now in
    let is : meaning line ≡ Err Syntax = subst (λ (fault : LineFault). IsSaid (Err fault) (meaning line)) c.in-Err-Syntax.field-0-is c.in-Err-Syntax.ensures.meaning in
    stays_in_memory host session session.jobs (of_line line) (Error word.Syntax) c.text_of-in-Err-Syntax.result refl (sym (ap (λ m. settings_by session.settings m) is)) c.requires (λ s tells stands. ap (after_meaning s) is) c.text_of-in-Err-Syntax.ensures.text c.text_of-in-Err-Syntax.ensures.memory

pub returns-in-Err-NoMemory-clause-worked : goal.returns-in-Err-NoMemory-clause-worked
returns-in-Err-NoMemory-clause-worked g c =
    let host = g.H.Host.state c.args.host.now in
    let session = c.args.self.now in
    read_fault_worked {T = Vec ℕ} host host session (of_line c.args.line.now) NoMemory c.requires (reads_nothing host) (memory_cause (Err NoMemory) (none_yet host) refl) memory_not_full

pub returns-in-Err-Long-clause-faults : goal.returns-in-Err-Long-clause-faults
returns-in-Err-Long-clause-faults g c = λ fault tells is other. file_idle 0 (g.H.Host.state c.args.host.now)

pub returns-in-Err-Syntax-clause-faults : goal.returns-in-Err-Syntax-clause-faults
returns-in-Err-Syntax-clause-faults g c = λ fault tells is other. file_idle 0 (g.H.Host.state c.args.host.now)

pub returns-in-Err-NoMemory-clause-faults : goal.returns-in-Err-NoMemory-clause-faults
returns-in-Err-NoMemory-clause-faults g c = λ fault tells is other. file_idle 0 (g.H.Host.state c.args.host.now)

pub returns-in-Err-Long-clause-looks : goal.returns-in-Err-Long-clause-looks
returns-in-Err-Long-clause-looks g c = λ s tells stands is. reads_nothing (g.H.Host.state c.args.host.now)

pub returns-in-Err-Syntax-clause-looks : goal.returns-in-Err-Syntax-clause-looks
returns-in-Err-Syntax-clause-looks g c = λ s tells stands is. reads_nothing (g.H.Host.state c.args.host.now)

pub returns-in-Err-NoMemory-clause-looks : goal.returns-in-Err-NoMemory-clause-looks
returns-in-Err-NoMemory-clause-looks g c = λ s tells stands is. reads_nothing (g.H.Host.state c.args.host.now)

pub returns-in-Err-NoMemory-clause-once : goal.returns-in-Err-NoMemory-clause-once
returns-in-Err-NoMemory-clause-once g c = same_once (g.H.Host.state c.args.host.now).reads c.args.self.now (names_by (meaning c.args.line.now))
