-- What a crash leaves of a run, line by line.
use Rattle.std.proofs.Common.{◌≡◌, inl, inr, ⊎_elim, ℕ, List, [], ◌∷◌, ◌++◌, take, Option, Some, None, refl, sym, ap, ◌∙◌, append-nil, append_assoc, arith}
use Rattle.std.specs.Prelude.{IsTrue, Result, Ok, Err, OnOk}
use Rattle.std.specs.List.{AllByRecursion}
use Rattle.dfs_gen.specs.Summary.{Counts, counts_of}
use Rattle.dfs_gen.specs.Script.{script as generated}
use Rattle.dfs_host.specs.Disk.{Image, IsImage}
use Rattle.dfs_host.specs.Host.{HostState, LeavesOnly, KeepsOutput, IsSaying, bytes_of, said_of}
use Rattle.dfs_host.specs.Source.{SourceState}
use Rattle.dfs_host.proofs.Files.{left_when_settled}
use Rattle.dfs_host.proofs.Moments.{started, goes_on, widened}
use Rattle.dfs_registry.specs.declared.listed.Listed.{Listed}
use Rattle.dfs_registry.proofs.Standing.{standing_images}
use Rattle.dfs_change.specs.Meant.{log_meaning}
use Rattle.dfs_reply.specs.Text.{text}
use Rattle.dfs_script.specs.Collected.{front}
use Rattle.dfs_script.specs.Script.{lines_of, ended_lines}
use Rattle.dfs_session.specs.declared.session.Session.{Session as LiveSession}
use Rattle.dfs_session.specs.Files.{publications_of, value, value_on, value_read}
use Rattle.dfs_session.specs.Images.{Holds, HoldsEither, HoldsNow}
use Rattle.dfs_session.specs.Run.{session_after, written}
use Rattle.dfs_session.specs.Session.{Session, Registry, Step, opened, step}
use Rattle.dfs_session.specs.Sound.{IsSound, listed_in}
use Rattle.dfs_session.specs.Stands.{Stands, LogIsSettled}
use Rattle.dfs_session.proofs.Runs.{session_after-append}
use Rattle.deltafs.specs.declared.status.Status.TheVariants.{Done}
use Rattle.deltafs.specs.declared.status.Stop.{Stop}
use Rattle.deltafs.specs.declared.words.Command.{Command}
use Rattle.deltafs.specs.declared.words.Command.TheVariants.{Run, Gen}
use Rattle.deltafs.specs.Commands.{Keeps}
use Rattle.deltafs.specs.Lines.{IsAfter, Tells, Goes, IsOfLine, KeepsLines, status_after}
use Rattle.deltafs.specs.Says.{IsPrompt}
use Rattle.deltafs.specs.Starts.{StartsFrom}
use Rattle.deltafs.proofs.Faults.{no_end}
use Rattle.deltafs.proofs.Promises.{keeps_before, keeps_into}
use Rattle.deltafs.proofs.Sums.{sums_before}
use Rattle.deltafs.proofs.Turns.{front_steps, lines_continue}

-- two facts of each image since
pub both : {P Q : Image → Type 0} {old new : HostState} → LeavesOnly P old new → LeavesOnly Q old new → LeavesOnly (λ image. P image × Q image) old new
both {P} {Q} {old} {new} p q = record {
  later = p.later;
  each = λ image left. (p.each image left, q.each image left);
  before = λ moment image le left. ⊎_elim (λ was. inl was) (λ has. ⊎_elim (λ was. inl was) (λ also. inr (has, also)) (q.before moment image le left)) (p.before moment image le left);
  keeps = p.keeps;
}

left_same : (host : HostState) (image : Image) (ls : List Listed) → IsImage host.disk image → AllByRecursion (LogIsSettled host) ls → publications_of image.files ls ≡ publications_of (bytes_of host) ls
left_same host image [] is settled = refl
left_same host image (l ∷ ls) is settled =
    λ i. record { name = l.name; job = l.job; change = log_meaning (left_when_settled settled.0 (image.files l.job) (is.files l.job) i) l } ∷ left_same host image ls is settled.1 i

-- an image of a host on which a session stands
image_holds : (host : HostState) (session : LiveSession) (s : Session) (image : Image) → IsTrue host.tells → IsSound host session → Stands host session s → IsImage host.disk image → Holds s.registry image
image_holds host session s image tells sound stands is =
    ap (value_read image.files) (standing_images host session.registry (sound.registry tells) image is)
    ∙ ap Some (left_same host image (listed_in session) is stands.settled ∙ sym stands.registry)

-- A line.

of_step : (command : Command) (before : Registry) (t : Step) (so_far : List ℕ) (image : Image) → HoldsEither before t.session.registry image → image.said ≡ so_far → IsOfLine command before t so_far image
of_step Run before t so_far image (inl holds) said = inl (record { said = said; holds = holds })
of_step Run before t so_far image (inr holds) said = inr (record { count = 0; said = said ∙ sym (append-nil so_far); holds = holds })
of_step (Gen creates) before t so_far image holds said = (said, holds)

-- its step was done, and nothing said
pub stepped : (command : Command) (old mid : HostState) (before : Registry) (t : Step) → LeavesOnly (HoldsEither before t.session.registry) old mid → LeavesOnly (λ image. image.said ≡ said_of old) old mid → LeavesOnly (IsOfLine command before t (said_of old)) old mid
stepped command old mid before t holds silent = widened (both holds silent) (λ image has. of_step command before t (said_of old) image has.0 has.1)

-- then its reply was said, or the front of it
pub replied : (old mid new : HostState) (before : Registry) (t : Step) (reply : List ℕ) → reply ≡ text t.reply → said_of mid ≡ said_of old → HoldsNow t.session.registry mid
    → LeavesOnly (IsOfLine Run before t (said_of old)) old mid → LeavesOnly (IsSaying reply mid.disk) mid new → LeavesOnly (IsOfLine Run before t (said_of old)) old new
replied old mid new before t reply is silent held first saying =
    goes_on first saying (λ image says. inr (record {
      count = says.count;
      said = says.said ∙ ap (λ (l : List ℕ). l ++ take says.count reply) silent ∙ ap (λ (l : List ℕ). said_of old ++ take says.count l) is;
      holds = held (record { files = image.files; said = mid.disk.said }) (record { files = says.files; said = refl });
    }))

-- The promise.

-- an image of a line keeps it, of which the front was worked
pub keeps_line : (command : Command) (old : Registry) (script : List ℕ) (before : List (List ℕ)) (line l : List ℕ) (after : List (List ℕ)) (so_far : List ℕ) (counts : Counts) (image : Image) → l ≡ front line → lines_of script ≡ before ++ line ∷ after
    → Tells command (opened old) before so_far counts → IsOfLine command (session_after (opened old) before).registry (step (session_after (opened old) before) l) so_far image → KeepsLines command old script image
keeps_line Run old script before line l after so_far counts image is cut said (inl at) = keeps_before old script before (line ∷ after) cut image (at.said ∙ said) at.holds
keeps_line Run old script before line l after so_far counts image is cut said (inr at) =
    let s = session_after (opened old) before in
    let same : step s l ≡ step s line = ap (step s) is ∙ front_steps s line in
    keeps_into old script before line after cut image at.count
    (at.said ∙ ap (λ (x : List ℕ). x ++ take at.count (text (step s l).reply)) said ∙ ap (λ (t : Step). written (opened old) before ++ take at.count (text t.reply)) same)
    (at.holds ∙ ap (λ (t : Step). Some t.session.registry) same)
keeps_line (Gen creates) old script before line l after so_far counts image is cut said at = ⊎_elim
    (λ (holds : Holds s.registry image). sums_before old script before (line ∷ after) cut image (at.0 ∙ said.0) holds)
    (λ (holds : Holds (step s l).session.registry image). sums_before old script (before ++ line ∷ []) after (cut ∙ sym (append_assoc before (line ∷ []) after)) image (at.0 ∙ said.0) (holds ∙ ap (λ (u : Session). Some u.registry) next))
    at.1
  where
    s : Session
    s = session_after (opened old) before

    next : (step s l).session ≡ session_after (opened old) (before ++ line ∷ [])
    next = ap (λ (t : Step). t.session) (ap (step s) is ∙ front_steps s line) ∙ sym (session_after-append (opened old) before (line ∷ []))

keeps_said : (command : Command) (old : Registry) (script : List ℕ) (before after : List (List ℕ)) (said : List ℕ) (counts : Counts) (image : Image) → lines_of script ≡ before ++ after → image.said ≡ said → Tells command (opened old) before said counts
    → Holds (session_after (opened old) before).registry image → KeepsLines command old script image
keeps_said Run old script before after said counts image cut is told holds = keeps_before old script before after cut image (is ∙ told) holds
keeps_said (Gen creates) old script before after said counts image cut is told holds = sums_before old script before after cut image (is ∙ told.0) holds

-- between two lines every image keeps it
pub keeps_now : (command : Command) (old : Registry) (taken more : List ℕ) (host : HostState) (counts : Counts) (session : LiveSession) → IsTrue host.tells → IsSound host session → IsAfter command old (ended_lines taken) host counts session
    → (image : Image) → IsImage host.disk image → KeepsLines command old (taken ++ more) image
keeps_now command old taken more host counts session tells ready at image is =
    let c = lines_continue taken more in
    keeps_said command old (taken ++ more) (ended_lines taken) c.after (said_of host) counts image c.cut is.said at.said (image_holds host session (session_after (opened old) (ended_lines taken)) image tells ready at.stands is)

-- and at the end it holds what all lines left
pub holds_at_end : (command : Command) (result : Result (Unit {0}) Stop) (old : Registry) (taken : List ℕ) (host : HostState) (counts : Counts) (session : LiveSession) → IsTrue host.tells → OnOk result (IsSound host session)
    → Goes command result old (lines_of taken) taken [] host counts session → status_after result ≡ Done → HoldsNow (session_after (opened old) (lines_of taken)).registry host
holds_at_end command (Ok u) old taken host counts session tells ready after is image of = image_holds host session (session_after (opened old) (lines_of taken)) image tells ready after.stands of
holds_at_end command (Err s) old taken host counts session tells ready ends is image of = absurd (no_end s is)

-- The start.

-- an image that has said nothing and holds the old registry
keeps_old : (command : Option Command) (old : Registry) (script : List ℕ) (image : Image) → image.said ≡ [] → Holds old image → Keeps command old script image
keeps_old None old script image silent holds = record { silent = silent; stands = holds }
keeps_old (Some Run) old script image silent holds = keeps_before old script [] (lines_of script) refl image silent holds
keeps_old (Some (Gen creates)) old script image silent holds = sums_before old (generated creates) [] (lines_of (generated creates)) refl image silent holds

told_none : (command : Command) (old : Registry) (said : List ℕ) → said ≡ [] → Tells command (opened old) [] said (counts_of [])
told_none Run old said silent = silent
told_none (Gen creates) old said silent = (silent, refl)

module _ (command : Option Command) (old : Registry) (host : HostState) (source : SourceState) (start : StartsFrom command old host source) where
  -- nothing was called yet
  pub idle : LeavesOnly (Keeps command old source.rest) host host
  idle = started host (λ image is. keeps_old command old source.rest image (is.said ∙ start.silent) (ap value (λ i n. left_when_settled (start.settled n) (image.files n) (is.files n) i) ∙ start.value))

  -- the registry was opened, or not
  pub opening : (mid : HostState) → LeavesOnly (Holds old) host mid → LeavesOnly (λ image. image.said ≡ said_of host) host mid → LeavesOnly (Keeps command old source.rest) host mid
  opening mid holds silent = widened (both holds silent) (λ image has. keeps_old command old source.rest image (has.1 ∙ start.silent) has.0)

  -- the session that was opened, before the first line
  pub opened_first : (works : Command) (mid : HostState) (session : LiveSession) → KeepsOutput host mid → Stands mid session (opened old) → value_on mid ≡ value_on host → IsAfter works old [] mid (counts_of []) session
  opened_first works mid session kept stands value = record { said = told_none works old (said_of mid) (kept.said ∙ start.silent); stands = stands; value = value ∙ start.value }

-- nothing was taken
pub prompt_idle : (old : Registry) (script said : List ℕ) → IsPrompt old script script said
prompt_idle old script said = record { earlier = []; piece = []; more = said; whole = refl; short = omega arith; said_earlier = refl }
