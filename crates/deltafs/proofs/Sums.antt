-- What a crash leaves of a script that is summed up.
use Rattle.std.proofs.Common.{◌≡◌, ℕ, List, [], ◌++◌, length, take, Some, refl, sym, ap, ◌∙◌, length-append, arith}
use Rattle.std.proofs.Math.Seq.{take-append_seam, take-length}
use Rattle.dfs_host.specs.Disk.{Image}
use Rattle.dfs_script.specs.Script.{lines_of}
use Rattle.dfs_session.specs.Files.{value}
use Rattle.dfs_session.specs.Run.{session_after, written, Promise, promises, published}
use Rattle.dfs_session.specs.Session.{Registry, opened}
use Rattle.deltafs.specs.Summed.{KeepsSummary, summary}
use Rattle.deltafs.proofs.Promises.{made, grown, published_is}

-- an image that has said nothing, and holds what these lines left
pub sums_before : (old : Registry) (script : List ℕ) (before after : List (List ℕ)) → lines_of script ≡ before ++ after → (image : Image) → image.said ≡ []
    → value image.files ≡ Some (session_after (opened old) before).registry → KeepsSummary old script image
sums_before old script before after cut image silent holds =
    let ps = promises 0 (opened old) before in
    let qs = promises (length (written (opened old) before)) (session_after (opened old) before) after in
    let all = published_is old script before after cut in
    record {
      unsaid = summary old script;
      begins = ap (λ (l : List ℕ). l ++ summary old script) (sym silent);
      count = length ps;
      within = omega (arith, ap length all, length-append ps qs);
      stands = holds ∙ ap Some (grown old script before) ∙ ap (λ (l : List Promise). Some (old ++ made l)) (sym (ap (take (length ps)) all ∙ take-append_seam ps qs));
      all = λ some. absurd (omega (arith, ap length silent, some));
    }

-- an image that has said the front of the summary, and holds what all lines left
pub sums_into : (old : Registry) (script : List ℕ) (image : Image) (unsaid : List ℕ) → summary old script ≡ image.said ++ unsaid
    → value image.files ≡ Some (session_after (opened old) (lines_of script)).registry → KeepsSummary old script image
sums_into old script image unsaid begins holds =
    let ps = published old script in
    record {
      unsaid = unsaid;
      begins = begins;
      count = length ps;
      within = omega arith;
      stands = holds ∙ ap Some (grown old script (lines_of script)) ∙ ap (λ (l : List Promise). Some (old ++ made l)) (sym (take-length ps));
      all = λ some. refl;
    }
