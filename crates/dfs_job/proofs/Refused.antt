-- Plans and parts that are refused, by what the job in memory has.
use Rattle.std.proofs.Common.{◌≡◌, ◌∙◌, ◌≤◌, ◌⊎◌, inl, inr, ℕ, zero, suc, Bool, true, false, if◌then◌else◌, nat_le, List, [], ◌∷◌, length, map, refl, sym, ap, subst, arith, true≢false}
use Rattle.std.specs.Prelude.{Option, Some, None, IsSome, IsSomeAnd, get_or, is_some, slice_get}
use Rattle.std.specs.List.{list_all}
use Rattle.std.proofs.lemmas.Bool.{leb-true}
use Rattle.std.proofs.lemmas.List.{length-map}
use Rattle.dfs_host.specs.Host.{HostState}
use Rattle.dfs_table.specs.declared.run.Run.{Run}
use Rattle.dfs_compact.specs.Compaction.{IsMerged}
use Rattle.dfs_job.specs.declared.answers.JobPart.TheVariants.{Merged, Last, Range, Done}
use Rattle.dfs_job.specs.declared.answers.Planned.TheVariants.{Made, Full}
use Rattle.dfs_job.specs.declared.job.Job.{Job as LiveJob}
use Rattle.dfs_job.specs.declared.planning.UnderWay.{UnderWay}
use Rattle.dfs_job.specs.Job.{Job, Plan, part_answer, part_answer_of, plan_answer, plan_answer_beside, with_part}
use Rattle.dfs_job.specs.Parted.{IsRefusedPart, IsRefusedPlan}
use Rattle.dfs_job.specs.Stands.{JobIsFit, JobStands, PlansAreFit, PlansStand}

-- ---- a plan

abbrev pub WhyNoPlan : LiveJob → Type 0
WhyNoPlan live = IsSome live.plan ⊎ ((live.plan ≡ None) × (live.plans ≡ 65535))

pub why_no_plan : (host : HostState) (live : LiveJob) (j : Job) → JobIsFit live → JobStands host live j → IsRefusedPlan (plan_answer j) → WhyNoPlan live
why_no_plan host live j fit stands = by live.plan refl j.plan stands.plan
  where
    most : live.plan ≡ None → (b : Bool) → nat_le 65535 j.plans ≡ b → IsRefusedPlan (if b then Full else Made) → WhyNoPlan live
    most none true e is = inr (none, omega (arith, leb-true 65535 j.plans e, stands.plans, fit.plans))
    most none false e is = absurd is

    by : (o : Option UnderWay) → live.plan ≡ o → (q : Option Plan) → PlansStand host live.layers.log.file j o q → IsRefusedPlan (plan_answer_beside q j.plans) → WhyNoPlan live
    by None under None stand is = most under (nat_le 65535 j.plans) refl is
    by None under (Some p) stand is = absurd stand
    by (Some u) under q stand is = inl (subst (λ (o : Option UnderWay). IsSome o) (sym under) refl)

-- ---- a part of a plan

abbrev pub WhyNoPart : LiveJob → ℕ → Type 0
WhyNoPart live part = (live.plan ≡ None) ⊎ (IsSomeAnd live.plan (λ u. u.compaction.parts ≤ part) ⊎ IsSomeAnd live.plan (λ u. IsMerged u.compaction part))

merged_at : (ms : List (Option Run)) (i : ℕ) → get_or (map is_some ms) i false ≡ true → IsSomeAnd (slice_get ms i) (λ (m : Option Run). IsSome m)
merged_at [] i e = absurd (true≢false (sym e))
merged_at (None ∷ ms) zero e = absurd (true≢false (sym e))
merged_at (Some run ∷ ms) zero e = refl
merged_at (m ∷ ms) (suc i) e = merged_at ms i e

pub why_no_part : (host : HostState) (live : LiveJob) (j : Job) (part : ℕ) → JobIsFit live → JobStands host live j → IsRefusedPart (part_answer j part) → WhyNoPart live part
why_no_part host live j part fit stands = by live.plan refl fit.plan j.plan stands.plan
  where
    last_or : (b : Bool) → IsRefusedPart (if b then Last else Merged) → ⊥
    last_or true is = is
    last_or false is = is

    by : (o : Option UnderWay) → live.plan ≡ o → PlansAreFit live o → (q : Option Plan) → PlansStand host live.layers.log.file j o q → IsRefusedPart (part_answer_of q part) → WhyNoPart live part
    by None under fits q stand is = inl under
    by (Some u) under fits None stand is = absurd stand
    by (Some u) under fits (Some p) stand is =
        inr
        (subst (λ (o : Option UnderWay). IsSomeAnd o (λ x. x.compaction.parts ≤ part) ⊎ IsSomeAnd o (λ x. IsMerged x.compaction part)) (sym under)
        (of_range (nat_le (length p.merged) part) refl (get_or p.merged part false) refl is))
      where
        of_range : (b : Bool) → nat_le (length p.merged) part ≡ b → (d : Bool) → get_or p.merged part false ≡ d → IsRefusedPart (if b then Range else (if d then Done else (if list_all (λ x. x) (with_part p.merged part) then Last else Merged)))
            → (u.compaction.parts ≤ part) ⊎ IsMerged u.compaction part
        of_range true e d f is = inl (omega (arith, leb-true (length p.merged) part e, ap length stand.merged, length-map u.compaction.merged is_some, fits.len))
        of_range false e true f is = inr (merged_at u.compaction.merged part (sym (ap (λ ms. get_or ms part false) stand.merged) ∙ f))
        of_range false e false f is = absurd (last_or (list_all (λ x. x) (with_part p.merged part)) is)
