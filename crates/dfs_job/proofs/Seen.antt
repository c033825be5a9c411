-- What a job sees on a host is what its plain job sees.
use Rattle.std.proofs.Common.{◌≡◌, ◌∙◌, ℕ, List, [], ◌∷◌, ◌++◌, map, refl, sym, ap, subst}
use Rattle.std.specs.Prelude.{flat_map}
use Rattle.std.specs.List.{AllByRecursion, AllZip}
use Rattle.std.proofs.lemmas.Grind.{flat_map-append}
use Rattle.std.proofs.lemmas.List.Folds.{flat_map-map}
use Rattle.std.proofs.lemmas.Simd.{map-map}
use Rattle.dfs_host.specs.Host.{HostState, bytes_of}
use Rattle.dfs_record.specs.declared.Record.{Record}
use Rattle.dfs_record.specs.Delta.{Delta, delta, records_of}
use Rattle.dfs_record.specs.KeyMap.{empty}
use Rattle.dfs_record.specs.Namespace.{after_records}
use Rattle.dfs_log.specs.Logs.{LogStands}
use Rattle.dfs_change.specs.declared.change.Change.{Change}
use Rattle.dfs_table.specs.declared.run.Run.{Run}
use Rattle.dfs_table.proofs.Stays.{all_append, all_behind, all_front}
use Rattle.dfs_view.specs.declared.layers.Layers.{Layers}
use Rattle.dfs_view.specs.Layers.{AreStored, LiesIn, Stand, layers_map, own_runs, records_on, runs_of, selected}
use Rattle.dfs_view.proofs.Parts.{records_in_file}
use Rattle.dfs_job.specs.declared.job.Job.{Job as LiveJob}
use Rattle.dfs_job.specs.Job.{Job, namespace_of}
use Rattle.dfs_job.specs.Stands.{IsStoredFor, JobStands}
use Rattle.dfs_job.proofs.Layers.{all_leave}

abbrev pub of_change : Change → ℕ × Run
of_change c = (c.listed.job, c.run.value)

abbrev pub of_own : ℕ → Run → ℕ × Run
of_own file r = (file, r)

abbrev pub Lies : HostState → ℕ × Run → Type 0
Lies host r = LiesIn host r.0 r.1

pub runs_are : (layers : Layers) → runs_of layers ≡ map of_change (selected layers) ++ map (of_own layers.log.file) (own_runs layers)
runs_are layers = λ i. sym (map-map of_change (λ c. c.value) layers.basis.items) i ++ sym (map-map (of_own layers.log.file) (λ r. r.value) layers.runs.items) i

all_map : {A B : Type 0} (P : B → Type 0) (f : A → B) (xs : List A) → AllByRecursion P (map f xs) → AllByRecursion (λ x. P (f x)) xs
all_map P f [] all = tt
all_map P f (x ∷ xs) all = (all.0, all_map P f xs all.1)

map_all : {A B : Type 0} (P : B → Type 0) (f : A → B) (xs : List A) → AllByRecursion (λ x. P (f x)) xs → AllByRecursion P (map f xs)
map_all P f [] all = tt
map_all P f (x ∷ xs) all = (all.0, map_all P f xs all.1)

module _ (host : HostState) (layers : Layers) (stand : Stand host layers) where
  all_runs : AllByRecursion (Lies host) (map of_change (selected layers) ++ map (of_own layers.log.file) (own_runs layers))
  all_runs = subst (AllByRecursion (Lies host)) (runs_are layers) stand.runs

  pub basis_lies : AllByRecursion (λ (c : Change). LiesIn host c.listed.job c.run.value) (selected layers)
  basis_lies = all_map (Lies host) of_change (selected layers) (all_front (Lies host) (map of_change (selected layers)) (map (of_own layers.log.file) (own_runs layers)) all_runs)

  pub own_lie : AllByRecursion (λ (r : Run). LiesIn host layers.log.file r) (own_runs layers)
  own_lie = all_map (Lies host) (of_own layers.log.file) (own_runs layers) (all_behind (Lies host) (map of_change (selected layers)) (map (of_own layers.log.file) (own_runs layers)) all_runs)

-- the other way round
pub stand_from : (host : HostState) (layers : Layers) → LogStands host layers.log → AllByRecursion (λ (c : Change). LiesIn host c.listed.job c.run.value) (selected layers) → AllByRecursion (λ (r : Run). LiesIn host layers.log.file r) (own_runs layers)
    → Stand host layers
stand_from host layers log basis own = record {
  log = log;
  runs = subst (AllByRecursion (Lies host)) (sym (runs_are layers))
      (all_append (Lies host) (map of_change (selected layers)) (map (of_own layers.log.file) (own_runs layers)) (map_all (Lies host) of_change (selected layers) basis) (map_all (Lies host) (of_own layers.log.file) (own_runs layers) own));
}

basis_records : (host : HostState) (cs : List Change) (ds : List Delta) → AllZip (IsStoredFor host) cs ds → AllByRecursion (λ (c : Change). LiesIn host c.listed.job c.run.value) cs
    → flat_map (λ (c : Change). records_on host c.run.value) cs ≡ flat_map records_of ds
basis_records host [] [] zip lies = refl
basis_records host [] (d ∷ ds) zip lies = absurd zip
basis_records host (c ∷ cs) [] zip lies = absurd zip
basis_records host (c ∷ cs) (d ∷ ds) zip lies =
    let here = records_in_file host c.listed.job c.run.value.tables lies.0.inside ∙ zip.0.records in
    λ i. here i ++ basis_records host cs ds zip.1 lies.1 i

own_records : (host : HostState) (file : ℕ) (rs : List Run) (ls : List (List Record)) → AreStored (bytes_of host file) rs ls → AllByRecursion (λ (r : Run). LiesIn host file r) rs
    → flat_map (λ (r : Run). records_on host r) rs ≡ flat_map (λ (l : List Record). records_of (delta l)) ls
own_records host file [] [] stored lie = refl
own_records host file [] (l ∷ ls) stored lie = absurd stored
own_records host file (r ∷ rs) [] stored lie = absurd stored
own_records host file (r ∷ rs) (l ∷ ls) stored lie =
    let here = records_in_file host file r.tables lie.0.inside ∙ stored.0.records in
    λ i. here i ++ own_records host file rs ls stored.1 lie.1 i

pub seen : (host : HostState) (live : LiveJob) (j : Job) → JobStands host live j → layers_map host live.layers ≡ namespace_of j
seen host live j stands =
    let layers = live.layers in
    let on : ℕ × Run → List Record = λ (r : ℕ × Run). records_on host r.1 in
    let below : flat_map on (runs_of layers) ≡ flat_map records_of j.basis ++ flat_map (λ (l : List Record). records_of (delta l)) j.layers.closed =
    ap (flat_map on) (runs_are layers)
    ∙ flat_map-append on (map of_change (selected layers)) (map (of_own layers.log.file) (own_runs layers))
    ∙ (λ i. (flat_map-map on of_change (selected layers) ∙ basis_records host (selected layers) j.basis stands.basis (basis_lies host layers stands.stand)) i
    ++ (flat_map-map on (of_own layers.log.file) (own_runs layers) ∙ own_records host layers.log.file (own_runs layers) j.layers.closed stands.layers.closed (own_lie host layers stands.stand)) i) in
    (λ i. after_records empty (below i ++ records_of (stands.layers.open_.held i))) ∙ all_leave j.basis j.layers
