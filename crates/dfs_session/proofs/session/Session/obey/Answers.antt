use Rattle.std.proofs.Common.{◌≡◌, refl, sym, subst}
use Rattle.dfs_reply.specs.declared.Reply.TheVariants.{Nothing as NoReply}
use Rattle.dfs_script.specs.declared.Line.{Line}
use Rattle.dfs_script.specs.declared.Line.TheVariants.{Nothing}
use Rattle.dfs_session.specs.Worked.{IsWorked, of_command}
use Rattle.dfs_session.proofs.Working.{stays_in_memory}
use Rattle.dfs_session.proofs.Writing.{begin_leaves_registry, file_idle, log_leaves_registry}
use Rattle.dfs_host.proofs.Moments.{reads_nothing}
use Rattle.dfs_session.specs.Session.{after_command}
use Rattle.dfs_session.specs.Worked.{ChangesNone, HasRoom, names_of}
use Rattle.dfs_session.proofs.Looking.{memory_reads}
use Rattle.dfs_session.proofs.Working.{on_ok}
use Rattle.dfs_session.proofs.Sealing.{is_some_names, ok_later}
use Rattle.dfs_session.specs.Sealing.{SealsFor}
use Rattle.std.specs.Prelude.{None, OnOk}
use Rattle.dfs_session.proofs.session.Session.obey.Goals as goal

pub returns-in-Nothing-clause-worked : goal.returns-in-Nothing-clause-worked
returns-in-Nothing-clause-worked g c =
    let session = c.args.self.now in
    let host = g.H.Host.state c.args.host.now in
    subst (λ (line : Line). IsWorked (of_command line) host host session session c.text_of.result) (sym c.in-Nothing.is)
    (stays_in_memory host session session.jobs (of_command Nothing) NoReply c.text_of.result refl refl c.requires.sound (λ s tells stands. refl) c.text_of.ensures.text c.text_of.ensures.memory)

pub returns-in-Set-clause-worked : goal.returns-in-Set-clause-worked
returns-in-Set-clause-worked g c =
    let host = g.H.Host.state c.args.host.now in
    subst (λ (line : Line). IsWorked (of_command line) host host c.args.self.now c.set.new.self c.set.result) (sym c.in-Set.is) (c.set.ensures.worked host c.requires.sound)

pub returns-in-Snapshots-clause-worked : goal.returns-in-Snapshots-clause-worked
returns-in-Snapshots-clause-worked g c =
    let session = c.args.self.now in
    let host = g.H.Host.state c.args.host.now in
    subst (λ (line : Line). IsWorked (of_command line) host host session session c.tell_snapshots.result) (sym c.in-Snapshots.is) (c.tell_snapshots.ensures.worked host c.requires.sound)

pub returns-in-Stats-clause-worked : goal.returns-in-Stats-clause-worked
returns-in-Stats-clause-worked g c =
    let session = c.args.self.now in
    let host = g.H.Host.state c.args.host.now in
    subst (λ (line : Line). IsWorked (of_command line) host host session session c.tell_stats.result) (sym c.in-Stats.is) (c.tell_stats.ensures.worked host c.requires.sound)

pub returns-in-End-clause-worked : goal.returns-in-End-clause-worked
returns-in-End-clause-worked g c =
    let host = g.H.Host.state c.args.host.now in
    subst (λ (line : Line). IsWorked (of_command line) host host c.args.self.now c.end.new.self c.end.result) (sym c.in-End.is) (c.end.ensures.worked host c.requires.sound)

pub returns-in-Nothing-clause-faults : goal.returns-in-Nothing-clause-faults
returns-in-Nothing-clause-faults g c = λ fault tells is other. file_idle 0 (g.H.Host.state c.args.host.now)

pub returns-in-Set-clause-faults : goal.returns-in-Set-clause-faults
returns-in-Set-clause-faults g c = λ fault tells is other. file_idle 0 (g.H.Host.state c.args.host.now)

pub returns-in-Snapshots-clause-faults : goal.returns-in-Snapshots-clause-faults
returns-in-Snapshots-clause-faults g c = λ fault tells is other. file_idle 0 (g.H.Host.state c.args.host.now)

pub returns-in-Stats-clause-faults : goal.returns-in-Stats-clause-faults
returns-in-Stats-clause-faults g c = λ fault tells is other. file_idle 0 (g.H.Host.state c.args.host.now)

pub returns-in-End-clause-faults : goal.returns-in-End-clause-faults
returns-in-End-clause-faults g c = λ fault tells is other. file_idle 0 (g.H.Host.state c.args.host.now)

pub returns-in-Begin-clause-faults : goal.returns-in-Begin-clause-faults
returns-in-Begin-clause-faults g c = λ fault tells is other. begin_leaves_registry (g.H.Host.state c.args.host.now) c.args.self.now c.requires.sound tells (g.H.Host.state c.begin.new.host) c.begin.ensures.worked.writes

pub returns-in-Space-clause-faults : goal.returns-in-Space-clause-faults
returns-in-Space-clause-faults g c = λ fault tells is other. log_leaves_registry (g.H.Host.state c.args.host.now) c.args.self.now c.requires.sound tells c.in-Space.job (g.H.Host.state c.operate.new.host) c.operate.ensures.worked.writes

pub returns-in-Flush-clause-faults : goal.returns-in-Flush-clause-faults
returns-in-Flush-clause-faults g c = λ fault tells is other. log_leaves_registry (g.H.Host.state c.args.host.now) c.args.self.now c.requires.sound tells c.in-Flush.job (g.H.Host.state c.flush.new.host) c.flush.ensures.worked.writes

pub returns-in-Plan-clause-faults : goal.returns-in-Plan-clause-faults
returns-in-Plan-clause-faults g c = λ fault tells is other. log_leaves_registry (g.H.Host.state c.args.host.now) c.args.self.now c.requires.sound tells c.in-Plan.job (g.H.Host.state c.plan.new.host) c.plan.ensures.worked.writes

pub returns-in-Part-clause-faults : goal.returns-in-Part-clause-faults
returns-in-Part-clause-faults g c = λ fault tells is other. log_leaves_registry (g.H.Host.state c.args.host.now) c.args.self.now c.requires.sound tells c.in-Part.job (g.H.Host.state c.part.new.host) c.part.ensures.worked.writes

pub returns-in-Nothing-clause-looks : goal.returns-in-Nothing-clause-looks
returns-in-Nothing-clause-looks g c = λ s tells stands is. reads_nothing (g.H.Host.state c.args.host.now)

pub returns-in-Set-clause-looks : goal.returns-in-Set-clause-looks
returns-in-Set-clause-looks g c = λ s tells stands is. reads_nothing (g.H.Host.state c.args.host.now)

pub returns-in-Snapshots-clause-looks : goal.returns-in-Snapshots-clause-looks
returns-in-Snapshots-clause-looks g c = λ s tells stands is. reads_nothing (g.H.Host.state c.args.host.now)

pub returns-in-Stats-clause-looks : goal.returns-in-Stats-clause-looks
returns-in-Stats-clause-looks g c = λ s tells stands is. reads_nothing (g.H.Host.state c.args.host.now)

pub returns-in-End-clause-looks : goal.returns-in-End-clause-looks
returns-in-End-clause-looks g c = λ s tells stands is. reads_nothing (g.H.Host.state c.args.host.now)

pub returns-in-Flush-clause-looks : goal.returns-in-Flush-clause-looks
returns-in-Flush-clause-looks g c = λ s tells stands is.
    memory_reads c.flush.result (g.H.Host.state c.args.host.now) (g.H.Host.state c.flush.new.host) (c.flush.ensures.at_once s tells stands (subst (λ (line : Line). ChangesNone line (after_command s line).reply) c.in-Flush.is is))

pub returns-in-Plan-clause-looks : goal.returns-in-Plan-clause-looks
returns-in-Plan-clause-looks g c = λ s tells stands is.
    memory_reads c.plan.result (g.H.Host.state c.args.host.now) (g.H.Host.state c.plan.new.host) (c.plan.ensures.at_once s tells stands (subst (λ (line : Line). ChangesNone line (after_command s line).reply) c.in-Plan.is is))

pub returns-in-Part-clause-looks : goal.returns-in-Part-clause-looks
returns-in-Part-clause-looks g c = λ s tells stands is.
    memory_reads c.part.result (g.H.Host.state c.args.host.now) (g.H.Host.state c.part.new.host) (c.part.ensures.at_once s tells stands (subst (λ (line : Line). ChangesNone line (after_command s line).reply) c.in-Part.is is))

pub returns-in-Publish-clause-looks : goal.returns-in-Publish-clause-looks
returns-in-Publish-clause-looks g c = λ s tells stands is.
    memory_reads c.publish.result (g.H.Host.state c.args.host.now) (g.H.Host.state c.publish.new.host) (c.publish.ensures.at_once s tells stands (subst (λ (line : Line). ChangesNone line (after_command s line).reply) c.in-Publish.is is))

pub returns-in-Begin-clause-looks : goal.returns-in-Begin-clause-looks
returns-in-Begin-clause-looks g c = λ s tells stands is. c.begin.ensures.looks s tells stands (subst (λ (line : Line). ChangesNone line (after_command s line).reply) c.in-Begin.is is)

pub returns-in-Space-clause-looks : goal.returns-in-Space-clause-looks
returns-in-Space-clause-looks g c = λ s tells stands is. c.operate.ensures.looks s tells stands (subst (λ (line : Line). ChangesNone line (after_command s line).reply) c.in-Space.is is)

pub returns-in-Nothing-clause-sealed : goal.returns-in-Nothing-clause-sealed
returns-in-Nothing-clause-sealed g c = λ s tells stands. on_ok c.text_of.result _ (subst (λ (line : Line). SealsFor line s (g.H.Host.state c.args.host.now) c.args.self.now c.args.self.now) (sym c.in-Nothing.is) tt)

pub returns-in-Set-clause-sealed : goal.returns-in-Set-clause-sealed
returns-in-Set-clause-sealed g c = λ s tells stands. on_ok c.set.result _ (subst (λ (line : Line). SealsFor line s (g.H.Host.state c.args.host.now) c.args.self.now c.set.new.self) (sym c.in-Set.is) tt)

pub returns-in-Snapshots-clause-sealed : goal.returns-in-Snapshots-clause-sealed
returns-in-Snapshots-clause-sealed g c = λ s tells stands. on_ok c.tell_snapshots.result _ (subst (λ (line : Line). SealsFor line s (g.H.Host.state c.args.host.now) c.args.self.now c.args.self.now) (sym c.in-Snapshots.is) tt)

pub returns-in-Stats-clause-sealed : goal.returns-in-Stats-clause-sealed
returns-in-Stats-clause-sealed g c = λ s tells stands. on_ok c.tell_stats.result _ (subst (λ (line : Line). SealsFor line s (g.H.Host.state c.args.host.now) c.args.self.now c.args.self.now) (sym c.in-Stats.is) tt)

pub returns-in-End-clause-sealed : goal.returns-in-End-clause-sealed
returns-in-End-clause-sealed g c = λ s tells stands. on_ok c.end.result _ (subst (λ (line : Line). SealsFor line s (g.H.Host.state c.args.host.now) c.args.self.now c.end.new.self) (sym c.in-End.is) tt)

pub returns-in-Begin-clause-sealed : goal.returns-in-Begin-clause-sealed
returns-in-Begin-clause-sealed g c = λ s tells stands. on_ok c.begin.result _ (subst (λ (line : Line). SealsFor line s (g.H.Host.state c.begin.new.host) c.args.self.now c.begin.new.self) (sym c.in-Begin.is) tt)

pub returns-in-Space-clause-sealed : goal.returns-in-Space-clause-sealed
returns-in-Space-clause-sealed g c = λ s tells stands. on_ok c.operate.result _ (subst (λ (line : Line). SealsFor line s (g.H.Host.state c.operate.new.host) c.args.self.now c.operate.new.self) (sym c.in-Space.is) tt)

pub returns-in-Flush-clause-sealed : goal.returns-in-Flush-clause-sealed
returns-in-Flush-clause-sealed g c = λ s tells stands. on_ok c.flush.result _ (subst (λ (line : Line). SealsFor line s (g.H.Host.state c.flush.new.host) c.args.self.now c.flush.new.self) (sym c.in-Flush.is) tt)

pub returns-in-Plan-clause-sealed : goal.returns-in-Plan-clause-sealed
returns-in-Plan-clause-sealed g c = λ s tells stands. on_ok c.plan.result _ (subst (λ (line : Line). SealsFor line s (g.H.Host.state c.plan.new.host) c.args.self.now c.plan.new.self) (sym c.in-Plan.is) tt)

pub returns-in-Part-clause-sealed : goal.returns-in-Part-clause-sealed
returns-in-Part-clause-sealed g c = λ s tells stands. on_ok c.part.result _ (subst (λ (line : Line). SealsFor line s (g.H.Host.state c.part.new.host) c.args.self.now c.part.new.self) (sym c.in-Part.is) tt)

pub returns-in-Publish-clause-sealed : goal.returns-in-Publish-clause-sealed
returns-in-Publish-clause-sealed g c = λ s tells stands.
    subst (λ (line : Line). OnOk c.publish.result (SealsFor line s (g.H.Host.state c.publish.new.host) c.args.self.now c.publish.new.self)) (sym c.in-Publish.is) (ok_later _ c.publish.result (c.publish.ensures.sealed s tells stands))

pub returns-in-Begin-clause-idle : goal.returns-in-Begin-clause-idle
returns-in-Begin-clause-idle g c = λ s tells stands fits. absurd (subst (HasRoom s) c.in-Begin.is fits)

pub returns-in-Space-clause-idle : goal.returns-in-Space-clause-idle
returns-in-Space-clause-idle g c = λ s tells stands fits. c.operate.ensures.idle s tells stands (subst (HasRoom s) c.in-Space.is fits)

pub returns-in-Flush-clause-idle : goal.returns-in-Flush-clause-idle
returns-in-Flush-clause-idle g c = λ s tells stands fits. c.flush.ensures.idle s tells stands (subst (HasRoom s) c.in-Flush.is fits)

pub returns-in-Plan-clause-idle : goal.returns-in-Plan-clause-idle
returns-in-Plan-clause-idle g c = λ s tells stands fits. absurd (subst (HasRoom s) c.in-Plan.is fits)

pub returns-in-Part-clause-idle : goal.returns-in-Part-clause-idle
returns-in-Part-clause-idle g c = λ s tells stands fits. absurd (subst (HasRoom s) c.in-Part.is fits)

pub returns-in-Publish-clause-idle : goal.returns-in-Publish-clause-idle
returns-in-Publish-clause-idle g c = λ s tells stands fits. absurd (subst (HasRoom s) c.in-Publish.is fits)

pub returns-in-Begin-clause-unread : goal.returns-in-Begin-clause-unread
returns-in-Begin-clause-unread g c = λ none. absurd (is_some_names (subst (λ (line : Line). names_of line ≡ None) c.in-Begin.is none))
