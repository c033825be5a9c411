-- A generated script, from its last line to its summary.
use Rattle.std.proofs.Common.{◌≡◌, ◌≢◌, ℕ, ◌-◌, ◌^◌, ◌<◌, List, [], ◌++◌, length, take, drop, Option, refl, sym, ap, subst, ◌∙◌, append-nil, length-append, arith}
use Rattle.std.proofs.lemmas.List.{take-append-drop}
use Rattle.dfs_gen.specs.Script.{script}
use Rattle.dfs_gen.specs.Summary.{Counts, summary_text}
use Rattle.dfs_gen.proofs.Sizes.{script_most}
use Rattle.dfs_host.specs.Disk.{Image}
use Rattle.dfs_host.specs.Host.{HostState, IsSaying, said_of}
use Rattle.dfs_script.specs.Script.{lines_of}
use Rattle.dfs_session.specs.Files.{value_on}
use Rattle.dfs_session.specs.Images.{HoldsNow}
use Rattle.dfs_session.specs.Run.{session_after}
use Rattle.dfs_session.specs.Session.{Registry, opened}
use Rattle.deltafs.specs.declared.status.Status.{Status}
use Rattle.deltafs.specs.declared.status.Status.TheVariants.{Done, Usage, NotRegistry, RegistryDamaged, DiskFault, OutputFault, SourceFault, NoMemory, LogFull, ScriptTooLong, Changed}
use Rattle.deltafs.specs.declared.status.Stop.{Stop}
use Rattle.deltafs.specs.declared.status.Stop.TheVariants as stop
use Rattle.deltafs.specs.declared.words.Command.TheVariants.{Gen}
use Rattle.deltafs.specs.Causes.{IsOfLines, SourceFaultsOf}
use Rattle.deltafs.specs.Lines.{Ends, IsCounted, SaysLine, status_after}
use Rattle.std.specs.Prelude.{Result, Ok, Err, IfErr}
use Rattle.deltafs.specs.Says.{Untaken}
use Rattle.deltafs.specs.Summed.{KeepsSummary, SaysSummary, summary}
use Rattle.deltafs.proofs.Sums.{sums_into}

-- a source without faults fails no run
pub no_source_fault : (status : Status) → SourceFaultsOf status 0 0 → status ≢ SourceFault
no_source_fault status of is = let rose = subst (λ (s : Status). SourceFaultsOf s 0 0) is of in omega (arith, rose.1)

-- and a generated script comes to its end
pub no_long_script : (status : Status) (creates : ℕ) (taken rest : List ℕ) → creates < 2 ^ 32 → taken ≡ script creates → Untaken status (2 ^ 64 - 1) taken rest → status ≢ ScriptTooLong
no_long_script status creates all rest below same untaken is =
    let takes = subst (λ (s : Status). Untaken s (2 ^ 64 - 1) all rest) is untaken in
    omega (arith, script_most creates below, ap length same, ap length takes.0.whole, length-append takes.0.taken rest, takes.1)

abbrev IsOther : Status → Type 0
IsOther SourceFault = ⊥
IsOther ScriptTooLong = ⊥
IsOther status = Unit {0}

abbrev IsOutput : Stop → Type 0
IsOutput stop.Output = Unit {0}
IsOutput (stop.Fault f) = ⊥

-- saying alone ends in few ways
pub is_said : (result : Result (Unit {0}) Stop) → IfErr result (λ s. s ≡ stop.Output) → IsOfLines (status_after result) × (status_after result ≢ SourceFault) × (status_after result ≢ ScriptTooLong)
is_said (Ok u) only = (tt, λ is. subst IsOther is tt, λ is. subst IsOther is tt)
is_said (Err stop.Output) only = (tt, λ is. subst IsOther is tt, λ is. subst IsOther is tt)
is_said (Err (stop.Fault f)) only = absurd (subst IsOutput (sym only) tt)

module _ (old : Registry) (all : List ℕ) where
  -- lines that stopped
  pub ends_silent : (creates : ℕ) (status : Status) (rest said : List ℕ) (files : Option Registry) (counts : Counts) → status ≢ Done → status ≢ SourceFault → status ≢ ScriptTooLong
      → Ends (Gen creates) status old all rest said files counts → SaysSummary status old all said files
  ends_silent creates Done rest said files counts no_end no_input no_limit ends = absurd (no_end refl)
  ends_silent creates SourceFault rest said files counts no_end no_input no_limit ends = absurd (no_input refl)
  ends_silent creates ScriptTooLong rest said files counts no_end no_input no_limit ends = absurd (no_limit refl)
  ends_silent creates Usage rest said files counts no_end no_input no_limit ends = ends
  ends_silent creates NotRegistry rest said files counts no_end no_input no_limit ends = ends
  ends_silent creates (RegistryDamaged place) rest said files counts no_end no_input no_limit ends = ends
  ends_silent creates DiskFault rest said files counts no_end no_input no_limit ends = ends
  ends_silent creates OutputFault rest said files counts no_end no_input no_limit ends = ends
  ends_silent creates NoMemory rest said files counts no_end no_input no_limit ends = ends
  ends_silent creates LogFull rest said files counts no_end no_input no_limit ends = ends
  ends_silent creates Changed rest said files counts no_end no_input no_limit ends = ends

  module _ (said : List ℕ) (files : Option Registry) (counts : Counts) (at : IsCounted old all said files counts) where
    -- the front of the summary, behind nothing
    begins : (count : ℕ) (new : List ℕ) → new ≡ said ++ take count (summary_text counts) → summary old all ≡ new ++ drop count (summary_text counts)
    begins count new is =
        ap summary_text (sym at.counted)
        ∙ sym (take-append-drop count (summary_text counts))
        ∙ ap (λ (l : List ℕ). l ++ drop count (summary_text counts)) (sym (is ∙ ap (λ (l : List ℕ). l ++ take count (summary_text counts)) at.silent))

    -- then the summary is said, or not in full
    pub summed : (status : Status) (new : List ℕ) (later : Option Registry) → later ≡ files → SaysLine status (summary_text counts) said new → SaysSummary status old all new later
    summed Done new later same is = record { said_summary = is ∙ ap (λ (l : List ℕ). l ++ summary_text counts) at.silent ∙ ap summary_text at.counted; stands = same ∙ at.stands }
    summed OutputFault new later same is = record { unsaid = drop is.0 (summary_text counts); begins = begins is.0 new is.1; stands = same ∙ at.stands }
    summed NoMemory new later same is = record { before = lines_of all; after = []; cut = sym (append-nil (lines_of all)); said_before = is ∙ at.silent; stands = same ∙ at.stands }
    summed Usage new later same is = absurd is
    summed NotRegistry new later same is = absurd is
    summed (RegistryDamaged place) new later same is = absurd is
    summed DiskFault new later same is = absurd is
    summed SourceFault new later same is = absurd is
    summed LogFull new later same is = absurd is
    summed ScriptTooLong new later same is = absurd is
    summed Changed new later same is = absurd is

  -- what a crash leaves while the summary is said
  pub sums_now : (mid : HostState) (counts : Counts) (image : Image) → IsCounted old all (said_of mid) (value_on mid) counts → HoldsNow (session_after (opened old) (lines_of all)).registry mid
      → IsSaying (summary_text counts) mid.disk image → KeepsSummary old all image
  sums_now mid counts image at held says =
      sums_into old all image (drop says.count (summary_text counts)) (begins (said_of mid) (value_on mid) counts at says.count image.said says.said)
      (held (record { files = image.files; said = mid.disk.said }) (record { files = says.files; said = refl }))
