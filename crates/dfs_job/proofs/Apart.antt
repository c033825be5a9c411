-- A job stands as it did where none of its files was written.
use Rattle.std.proofs.Common.{◌≡◌, ◌≢◌, ℕ, List, [], ◌∷◌, length, take, sym, ap, subst}
use Rattle.std.specs.Prelude.{Option, Some, None, IsTrue}
use Rattle.std.specs.List.{AllByRecursion, AllZip}
use Rattle.dfs_host.specs.Host.{HostState, Only, bytes_of}
use Rattle.dfs_record.specs.Delta.{Delta}
use Rattle.dfs_log.specs.Logs.{LogState, LogStands, log_header}
use Rattle.dfs_change.specs.declared.change.Change.{Change}
use Rattle.dfs_table.specs.declared.run.Run.{Run}
use Rattle.dfs_table.specs.Stored.{IsStored, IsTableOf}
use Rattle.dfs_table.proofs.Stays.{all_weaker}
use Rattle.dfs_view.specs.Layers.{AreStored, LiesIn, own_runs, selected}
use Rattle.dfs_job.specs.declared.job.Job.{Job as LiveJob}
use Rattle.dfs_job.specs.declared.planning.UnderWay.{UnderWay}
use Rattle.dfs_job.specs.Job.{Job, Plan, covered_changes}
use Rattle.dfs_job.specs.Stands.{IsSelectable, IsStoredFor, JobStands, PartsAreStored, PlansStand}
use Rattle.dfs_job.proofs.Seen.{basis_lies, own_lie, stand_from}

-- every file but this one reads as before
abbrev pub AgreeBut : ℕ → HostState → HostState → Type 0
AgreeBut n old new = (m : ℕ) → m ≢ n → bytes_of new m ≡ bytes_of old m

pub agree_but : (n : ℕ) (old new : HostState) → IsTrue old.tells → Only n old new → AgreeBut n old new
agree_but n old new tells only m other = ap (λ (f : _). f.bytes) ((only.content tells).others m other)

pub lies_apart : (old new : HostState) (m : ℕ) (run : Run) → bytes_of new m ≡ bytes_of old m → LiesIn old m run → LiesIn new m run
lies_apart old new m run same lies = record { each = subst (λ b. AllByRecursion (IsTableOf b) run.tables) (sym same) lies.each; inside = lies.inside }

pub log_apart : (old new : HostState) (log : LogState) → bytes_of new log.file ≡ bytes_of old log.file → LogStands old log → LogStands new log
log_apart old new log same stands = record {
  len = subst (λ (b : List ℕ). length b ≡ log.len) (sym same) stands.len;
  header_inside = stands.header_inside;
  header = subst (λ (b : List ℕ). take 12 b ≡ log_header log.file) (sym same) stands.header;
}

-- ---- what a job stands on reads as before

abbrev pub ReadsSame : HostState → HostState → Change → Type 0
ReadsSame old new c = bytes_of new c.listed.job ≡ bytes_of old c.listed.job

pub basis_still : (old new : HostState) (cs : List Change) (ds : List Delta) → AllByRecursion (ReadsSame old new) cs → AllZip (IsStoredFor old) cs ds → AllZip (IsStoredFor new) cs ds
basis_still old new [] [] same zip = tt
basis_still old new [] (d ∷ ds) same zip = absurd zip
basis_still old new (c ∷ cs) [] same zip = absurd zip
basis_still old new (c ∷ cs) (d ∷ ds) same zip = (subst (λ b. IsStored b c.run.value d) (sym same.0) zip.0, basis_still old new cs ds same.1 zip.1)

pub selectable_still : (old new : HostState) (c : Change) → ReadsSame old new c → IsSelectable old c → IsSelectable new c
selectable_still old new c same is = record {
  changes = is.changes;
  stored = subst (λ b. IsStored b c.run.value is.changes) (sym same) is.stored;
  lies = lies_apart old new c.listed.job c.run.value same is.lies;
  own = is.own;
}

basis_lies_still : (old new : HostState) (cs : List Change) → AllByRecursion (ReadsSame old new) cs → AllByRecursion (λ (c : Change). LiesIn old c.listed.job c.run.value) cs → AllByRecursion (λ (c : Change). LiesIn new c.listed.job c.run.value) cs
basis_lies_still old new [] same lies = tt
basis_lies_still old new (c ∷ cs) same lies = (lies_apart old new c.listed.job c.run.value same.0 lies.0, basis_lies_still old new cs same.1 lies.1)

plans_still : (old new : HostState) (file : ℕ) (j : Job) (o : Option UnderWay) (q : Option Plan) → bytes_of new file ≡ bytes_of old file → PlansStand old file j o q → PlansStand new file j o q
plans_still old new file j None None same stand = tt
plans_still old new file j None (Some p) same stand = absurd stand
plans_still old new file j (Some u) None same stand = absurd stand
plans_still old new file j (Some u) (Some p) same stand = record { scope = stand.scope; covered = stand.covered; merged = stand.merged; parts = subst (λ b. PartsAreStored b u.compaction (covered_changes p j)) (sym same) stand.parts; cut = stand.cut }

pub stands_still : (old new : HostState) (live : LiveJob) (j : Job) → bytes_of new live.layers.log.file ≡ bytes_of old live.layers.log.file → AllByRecursion (ReadsSame old new) (selected live.layers) → JobStands old live j → JobStands new live j
stands_still old new live j same others stands =
    let layers = live.layers in
    record {
      ids = stands.ids;
      settings = stands.settings;
      plans = stands.plans;
      stand = stand_from new layers (log_apart old new layers.log same stands.stand.log) (basis_lies_still old new (selected layers) others (basis_lies old layers stands.stand))
          (all_weaker (λ (r : Run). LiesIn old layers.log.file r) (λ (r : Run). LiesIn new layers.log.file r) (own_runs layers) (λ r. lies_apart old new layers.log.file r same) (own_lie old layers stands.stand));
      layers = record { closed = subst (λ b. AreStored b (own_runs layers) j.layers.closed) (sym same) stands.layers.closed; open_ = stands.layers.open_ };
      basis = basis_still old new (selected layers) j.basis others stands.basis;
      plan = plans_still old new layers.log.file j live.plan j.plan same stands.plan;
      fair = stands.fair;
      account = stands.account;
    }

-- ---- files but one

reads_same : (n : ℕ) (old new : HostState) → AgreeBut n old new → (cs : List Change) → AllByRecursion (λ (c : Change). c.listed.job ≢ n) cs → AllByRecursion (ReadsSame old new) cs
reads_same n old new agree cs others = all_weaker (λ (c : Change). c.listed.job ≢ n) (ReadsSame old new) cs (λ c other. agree c.listed.job other) others

pub basis_apart : (n : ℕ) (old new : HostState) → AgreeBut n old new → (cs : List Change) (ds : List Delta) → AllByRecursion (λ (c : Change). c.listed.job ≢ n) cs → AllZip (IsStoredFor old) cs ds → AllZip (IsStoredFor new) cs ds
basis_apart n old new agree cs ds others zip = basis_still old new cs ds (reads_same n old new agree cs others) zip

pub basis_still_lies : (n : ℕ) (old new : HostState) → AgreeBut n old new → (cs : List Change) → AllByRecursion (λ (c : Change). c.listed.job ≢ n) cs → AllByRecursion (λ (c : Change). LiesIn old c.listed.job c.run.value) cs
    → AllByRecursion (λ (c : Change). LiesIn new c.listed.job c.run.value) cs
basis_still_lies n old new agree cs others lies = basis_lies_still old new cs (reads_same n old new agree cs others) lies
