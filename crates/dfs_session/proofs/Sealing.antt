-- A publication that was listed, whose log stays as it was sealed.
use Rattle.std.proofs.Common.{◌≡◌, ◌≢◌, ◌∙◌, ◌+◌, List, [], ◌∷◌, ◌++◌, length, ℕ, refl, sym, ap, subst}
use Rattle.std.specs.Prelude.{Option, Some, None, IsTrue, OnOk, Result, Ok, Err}
use Rattle.dfs_host.specs.Disk.{FileState}
use Rattle.dfs_host.specs.Host.{HostState, Only, bytes_of}
use Rattle.dfs_registry.specs.declared.listed.Listed.{Listed}
use Rattle.dfs_script.specs.declared.JobWord.{JobWord}
use Rattle.dfs_view.specs.declared.layers.Layers.{Layers}
use Rattle.dfs_job.specs.declared.job.Job.{Job as LiveJob}
use Rattle.dfs_job.specs.Job.{Job, after_flush, layer_changes}
use Rattle.dfs_job.specs.Sealed.{SealsLayers}
use Rattle.dfs_job.specs.Stands.{TellsOf, flushed_firsts, flushed_tables}
use Rattle.dfs_session.specs.declared.session.Session.{Session as LiveSession}
use Rattle.dfs_session.specs.Sealing.{AddsSealed}
use Rattle.dfs_session.specs.Session.{Session, live_job}
use Rattle.dfs_session.specs.Sound.{listed_in, live_in}
use Rattle.dfs_session.proofs.Changing.{Found}
use Rattle.dfs_session.proofs.Writing.{other_stays}

pub adds_sealed : (before mid after : HostState) (session new : LiveSession) (s : Session) (w : JobWord) (live : LiveJob) (f : Found before s w live) → live_in session w ≡ Some live → live.ids.job ≢ 0 → IsTrue mid.tells → Only 0 mid after → (layers : Layers) (listed : Listed)
    → listed.job ≡ live.ids.job → listed_in new ≡ listed_in session ++ listed ∷ [] → SealsLayers (bytes_of mid live.ids.job) live.layers layers listed.at listed.len
    → TellsOf (flushed_firsts live f.plain) (flushed_tables live f.plain) live.settings.parts (layer_changes (after_flush f.plain)) listed.len → length (bytes_of mid live.ids.job) ≡ listed.at + listed.len
    → AddsSealed after session new (live_in session w) (live_job s w)
adds_sealed before mid after session new s w live f is apart tells only layers listed job entries seals tables ends =
    let same : bytes_of mid live.ids.job ≡ bytes_of after listed.job = sym (ap (λ (file : FileState). file.bytes) (other_stays live.ids.job 0 apart only tells).same) ∙ ap (bytes_of after) (sym job) in
    subst (λ (o : Option LiveJob). AddsSealed after session new o (live_job s w)) (sym is)
    (subst (λ (q : Option Job). AddsSealed after session new (Some live) q) (sym f.found)
    (record {
      listed = listed;
      entries = entries;
      sealed = record {
        layers = layers;
        job = job;
        seals = subst (λ bytes. SealsLayers bytes live.layers layers listed.at listed.len) same seals;
        tables = tables;
        ends = sym (ap length same) ∙ ends;
      };
    }))

pub ok_later : {T E A : Type 0} (P : Type 0) (result : Result T E) → (A → OnOk result P) → OnOk result (A → P)
ok_later P (Ok x) f = f
ok_later P (Err e) f = tt

pub is_some_names : {A : Type 0} {x : A} → Some x ≡ None → ⊥
is_some_names same = absurd (cc same)
