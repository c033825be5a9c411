-- Which logs have refused a piece.
use Rattle.std.proofs.Common.{◌≡◌, ◌∙◌, ℕ, Bool, true, false, List, [], ◌∷◌, refl, sym, ap, subst}
use Rattle.std.specs.Prelude.{◌||◌, nat_lt, IsTrue, Result, Ok, Err, IsErrOf, IfErr}
use Rattle.dfs_host.specs.declared.fault.Fault.{Fault}
use Rattle.dfs_host.specs.declared.fault.Fault.TheVariants.{NoMemory, LogFull}
use Rattle.std.specs.List.{AllByRecursion, list_any}
use Rattle.std.proofs.lemmas.Bool.{lt-ltb, or_from}
use mathlib.Core.Bool.{true≢false}
use Rattle.dfs_registry.specs.declared.listed.Listed.{Listed}
use Rattle.dfs_script.specs.declared.JobWord.{JobWord}
use Rattle.dfs_job.specs.declared.job.Job.{Job as LiveJob}
use Rattle.dfs_session.specs.declared.session.Session.{Session as LiveSession}
use Rattle.dfs_session.specs.Sound.{IsLive, IsSoundInMemory, jobs_of, listed_in}
use Rattle.dfs_session.specs.Worked.{IsFullWhere, IsPast, has_refused}

pub unrefused : (es : List (JobWord × LiveJob)) → AllByRecursion (λ e. e.1.layers.log.refused ≡ 0) es → list_any (λ e. nat_lt 0 e.1.layers.log.refused) es ≡ false
unrefused [] all = refl
unrefused (e ∷ es) all = or_from _ _ (ap (λ (n : ℕ). nat_lt 0 n) all.0) (unrefused es all.1)

-- no live job has refused a piece
pub each_unrefused : (greatest : ℕ) (listed : List Listed) (es : List (JobWord × LiveJob)) → AllByRecursion (λ e. IsLive greatest listed e.1) es → AllByRecursion (λ e. e.1.layers.log.refused ≡ 0) es
each_unrefused greatest listed [] all = tt
each_unrefused greatest listed (e ∷ es) all = (all.0.fit.layers.none_refused, each_unrefused greatest listed es all.1)

pub sound_refused : (session : LiveSession) → IsSoundInMemory session → has_refused session ≡ false
sound_refused session sound = unrefused (jobs_of session) (each_unrefused session.greatest (listed_in session) (jobs_of session) sound.jobs)

abbrev IsNo : Bool → Type 0
IsNo true = ⊥
IsNo false = Unit {0}

pub not_true : (b : Bool) → b ≡ false → IsTrue b → ⊥
not_true b is holds = subst IsNo holds (subst IsNo (sym is) tt)

abbrev IsNoLogFull : {T : Type 0} → Result T Fault → Type 0
IsNoLogFull (Err LogFull) = ⊥
IsNoLogFull (Err _) = Unit {0}
IsNoLogFull (Ok x) = Unit {0}

pub memory_no_log_full : {T : Type 0} (result : Result T Fault) → IfErr result (λ fault. fault ≡ NoMemory) → IsErrOf result LogFull → ⊥
memory_no_log_full (Ok x) memory is = subst IsNoLogFull is tt
memory_no_log_full (Err fault) memory is = subst IsNoLogFull (ap (λ (f : Fault). Err f) (sym memory) ∙ is) tt

neither : (a b : Bool) → (a || b) ≡ false → (a ≡ false) × (b ≡ false)
neither true b e = absurd (true≢false e)
neither false b e = (refl, e)

-- where no log refused a piece, none refused one that fits
pub none_past : (es : List (JobWord × LiveJob)) → list_any (λ e. nat_lt 0 e.1.layers.log.refused) es ≡ false → AllByRecursion (λ e. IsPast e.1) es
none_past [] none = tt
none_past (e ∷ es) none =
    let parts = neither (nat_lt 0 e.1.layers.log.refused) (list_any (λ f. nat_lt 0 f.1.layers.log.refused) es) none in
    (λ some. absurd (true≢false (sym (lt-ltb 0 e.1.layers.log.refused some) ∙ parts.0)), none_past es parts.1)

-- where no log refused a piece, no answer is that a log is full
pub full_by : {T : Type 0} (result : Result T Fault) {logged : Bool} (many : Bool) (session : LiveSession) → (IsErrOf result LogFull → ⊥) → has_refused session ≡ false → IsFullWhere result logged many session
full_by result many session never none = record { only = λ is. absurd (never is); past = none_past (jobs_of session) none; refused = λ holds. absurd (not_true (has_refused session) none holds) }
