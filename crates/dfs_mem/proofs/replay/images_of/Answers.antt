use Rattle.std.proofs.Common.{◌≡◌, ℕ, eqb, List, [], ◌∷◌, ◌++◌, map, refl, sym, ◌∙◌, ap, subst, append_assoc, Vec}
use Rattle.std.proofs.lemmas.List.{append-nil}
use Rattle.std.specs.List.{IsDistinct}
use Rattle.std.specs.Map.{lookup}
use Rattle.std.specs.Option.{option_map_or}
use Rattle.std.specs.declared.alloc.Global.{Global}
use Rattle.dfs_host.specs.Disk.{settled_file}
use Rattle.dfs_mem.specs.declared.track.Track.{Track}
use Rattle.dfs_mem.specs.Images.{image_of}
use Rattle.dfs_mem.specs.Track.{file_of}
use Rattle.dfs_mem.proofs.Images.{AreImages, AreImages-push, images_bytes, images_differ}
use Rattle.dfs_mem.proofs.replay.images_of.Goals as goal

pub loop-number-preserved : goal.loop-number-preserved
loop-number-preserved c =
    let before = c.loop-number.invariant.before in
    let entry : ℕ × Track = (c.in-Some.number.now, c.in-Some.track.now) in
    record {
      before = before ++ entry ∷ [];
      split = append_assoc before (entry ∷ []) c.next.new.self
          ∙ ap (λ (l : List (ℕ × Track)). before ++ l) (sym c.in-Some.ensures.steps)
          ∙ c.loop-number.invariant.split;
      images = subst (λ (l : List (ℕ × Vec ℕ Global)). AreImages c.args.choice (before ++ entry ∷ []) l) (sym c.in_ok-push.ensures.items)
          (AreImages-push c.args.choice before c.loop-number.images.items entry (entry.0, c.in_ok-bytes.bytes) c.loop-number.invariant.images refl c.in_ok-bytes.ensures);
    }

pub returns-clause-differ : goal.returns-clause-differ
returns-clause-differ c =
    let before = c.loop-number.invariant.before in
    let all : before ≡ c.args.tracks.now.entries = sym (append-nil before) ∙ ap (λ (l : List (ℕ × Track)). before ++ l) (sym c.in-None.ensures.steps.0) ∙ c.loop-number.invariant.split in
    images_differ c.args.choice before c.loop-number.images.items c.loop-number.invariant.images
    (subst (λ (l : List (ℕ × Track)). IsDistinct eqb (map (λ (e : ℕ × Track). e.0) l)) (sym all) c.into_iter-number-iterator.ensures.into_iter_gives.4)

pub returns-clause-bytes : goal.returns-clause-bytes
returns-clause-bytes c n =
    let before = c.loop-number.invariant.before in
    let all : before ≡ c.args.tracks.now.entries = sym (append-nil before) ∙ ap (λ (l : List (ℕ × Track)). before ++ l) (sym c.in-None.ensures.steps.0) ∙ c.loop-number.invariant.split in
    images_bytes c.args.choice before c.loop-number.images.items n c.loop-number.invariant.images
    ∙ ap (λ (l : List (ℕ × Track)). image_of c.args.choice (option_map_or file_of (lookup (eqb n) l) (settled_file []))) all
