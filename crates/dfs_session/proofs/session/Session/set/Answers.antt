use Rattle.std.proofs.Common.{◌∙◌, None, refl, sym, ap}
use Rattle.dfs_host.proofs.Causes.{none_yet}
use Rattle.dfs_host.proofs.Moments.{reads_nothing}
use Rattle.dfs_session.specs.declared.session.Session.{Session as LiveSession}
use Rattle.dfs_session.specs.Session.{sets, with_setting}
use Rattle.dfs_session.specs.Sound.{IsSound}
use Rattle.dfs_session.specs.Stands.{Stands}
use Rattle.dfs_session.specs.Worked.{AreNamed, setting}
use Rattle.dfs_session.proofs.Faults.{sound_refused}
use Rattle.dfs_session.proofs.Images.{read_images}
use Rattle.dfs_session.proofs.Values.{stands_value}
use Rattle.dfs_session.proofs.Working.{on_ok, same_names, worked_by_memory}
use Rattle.dfs_session.proofs.Writing.{reads_these}
use Rattle.dfs_session.proofs.session.Session.set.Goals as goal

pub returns-clause-worked : goal.returns-clause-worked
returns-clause-worked c = λ host sound.
    let old = c.args.self.now in
    let new : LiveSession = record old { settings = c.with_setting-self.result } in
    let memory = sound.memory in
    let new_sound : IsSound host new = record {
      memory = record {
        live = memory.live;
        registry = memory.registry;
        settings = c.with_setting-self.ensures.settings;
        greatest = memory.greatest;
        listed = memory.listed;
        jobs = memory.jobs;
        apart = memory.apart;
        kept = memory.kept;
        entries = memory.entries;
        inside = memory.inside;
        basis = memory.basis;
        ended = memory.ended;
      };
      registry = sound.registry;
      jobs = sound.jobs;
      kept = sound.kept;
    } in
    worked_by_memory host host old new (setting c.args.what c.args.value) c.text_of.result c.text_of.ensures.memory (reads_these (reads_nothing host)) (none_yet host) (sound_refused new new_sound.memory) c.with_setting-self.ensures.with
    (on_ok c.text_of.result (IsSound host new) new_sound) (λ s tells stands. c.text_of.ensures.text)
    (λ s tells stands. on_ok c.text_of.result (Stands host new (sets s c.args.what c.args.value).session) (record {
      registry = stands.registry;
      settled = stands.settled;
      jobs = stands.jobs;
      greatest = stands.greatest;
      settings = ap (with_setting c.args.what c.args.value) stands.settings ∙ sym c.with_setting-self.ensures.with;
    }))
    (λ s tells stands. stands_value host old s tells sound stands) (λ s tells stands. refl)
    (λ s tells stands. read_images host host old s s.registry tells sound stands (reads_nothing host)) (λ quiet. absurd quiet)
    (on_ok c.text_of.result (AreNamed None old new) (same_names old new None refl refl new_sound.memory))
