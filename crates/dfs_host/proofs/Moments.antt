-- How a run of calls goes on.
use Rattle.std.proofs.Common.{◌≡◌, inl, inr, ⊎_elim, ℕ, List, [], ◌∷◌, length, drop, refl, sym, ◌∙◌, ap, subst, arith}
use Rattle.std.specs.Prelude.{IsTrue, Result}
use Rattle.dfs_host.specs.Disk.{Disk, Image, MayLeave, IsImage, IsImageBut}
use Rattle.dfs_host.specs.Host.{HostState, Told, bytes_of, now, LeftBy, LeavesSince, LeavesOnly, ChangesOnly, ChangesNothing, HasDiskCause, Only, OnlyReads, SaysNothing}

-- behind all past moments stands none
pub none_left : (past : List Disk) (image : Image) → LeftBy (drop (length past) past) image → ⊥
none_left [] image left = left
none_left (disk ∷ past) image left = none_left past image left

-- since this moment there is no other
pub only_now : (host : HostState) (image : Image) → LeavesSince host (now host) image → IsImage host.disk image
only_now host image (inl here) = here
only_now host image (inr past) = absurd (none_left host.past image past)

-- before the first call
pub started : {P : Image → Type 0} (old : HostState) → ((image : Image) → IsImage old.disk image → P image) → LeavesOnly P old old
started old here = record {
  later = omega arith;
  each = λ image left. here image (only_now old image left);
  before = λ moment image le left. inl left;
  keeps = λ moment image le left. left;
}

-- one call or run more
pub goes_on : {P Q : Image → Type 0} {old mid new : HostState} → LeavesOnly P old mid → LeavesOnly Q mid new → ((image : Image) → Q image → P image) → LeavesOnly P old new
goes_on {P} {Q} {old} {mid} {new} first second widen = record {
  later = omega (arith, first.later, second.later);
  each = λ image left. ⊎_elim (first.each image) (widen image) (second.before (now old) image first.later left);
  before = λ moment image le left.
      ⊎_elim (first.before moment image le) (λ q. inr (widen image q)) (second.before moment image (omega (arith, le, first.later)) left);
  keeps = λ moment image le left. second.keeps moment image (omega (arith, le, first.later)) (first.keeps moment image le left);
}

pub widened : {P Q : Image → Type 0} {old new : HostState} → LeavesOnly P old new → ((image : Image) → P image → Q image) → LeavesOnly Q old new
widened only widen = record {
  later = only.later;
  each = λ image left. widen image (only.each image left);
  before = λ moment image le left. ⊎_elim (λ was. inl was) (λ p. inr (widen image p)) (only.before moment image le left);
  keeps = only.keeps;
}

-- an image outside file n of the later disk is one of the earlier disk
image_before : {n : ℕ} {P : List ℕ → Type 0} {old mid : HostState} → ChangesOnly n P old mid → (image : Image) → IsImageBut n mid.disk image → IsImageBut n old.disk image
image_before first image but = record {
  files = λ m other. subst (λ file. MayLeave file (image.files m)) (first.others m other) (but.files m other);
  said = but.said ∙ first.said;
}

-- one call or run more that changes only the same file
pub changes_on : {n : ℕ} {P Q : List ℕ → Type 0} {old mid new : HostState} → ChangesOnly n P old mid → ChangesOnly n Q mid new → ((bytes : List ℕ) → Q bytes → P bytes) → ChangesOnly n P old new
changes_on {n} {P} {Q} first second widen = record {
  others = λ m other. second.others m other ∙ first.others m other;
  said = second.said ∙ first.said;
  images = goes_on first.images second.images (λ image with. record { others = image_before first image with.others; file = widen (image.files n) with.file });
}

pub changes_widened : {n : ℕ} {P Q : List ℕ → Type 0} {old new : HostState} → ChangesOnly n P old new → ((bytes : List ℕ) → P bytes → Q bytes) → ChangesOnly n Q old new
changes_widened {n} only widen = record {
  others = only.others;
  said = only.said;
  images = widened only.images (λ image with. record { others = with.others; file = widen (image.files n) with.file });
}

-- a call that changes nothing changes only any one file
pub nothing_changed : {n : ℕ} {P : List ℕ → Type 0} {old new : HostState} → ChangesNothing old new → ((bytes : List ℕ) → MayLeave (old.disk.files n) bytes → P bytes) → ChangesOnly n P old new
nothing_changed {n} {P} {old} {new} none here = record {
  others = λ m other. subst (λ (disk : Disk). disk.files m ≡ old.disk.files m) (sym none.disk) refl;
  said = subst (λ (disk : Disk). disk.said ≡ old.disk.said) (sym none.disk) refl;
  images = widened none.images (λ image is. record {
    others = record { files = λ m other. is.files m; said = is.said };
    file = here (image.files n) (is.files n);
  });
}

-- a call that does nothing
pub nothing_done : {n : ℕ} {P : List ℕ → Type 0} (host : HostState) → ((bytes : List ℕ) → MayLeave (host.disk.files n) bytes → P bytes) → ChangesOnly n P host host
nothing_done {n} host here = record {
  others = λ m other. refl;
  said = refl;
  images = started host (λ image is. record { others = record { files = λ m other. is.files m; said = is.said }; file = here (image.files n) (is.files n) });
}

-- a file call changes only its file
pub only_of : {n : ℕ} {P : List ℕ → Type 0} {old new : HostState} {T E : Type 0} {result : Result T E} → HasDiskCause old new result → Told old (ChangesOnly n P old new) → Only n old new
only_of cause crash = record { tells = cause.tells; say_faults = cause.say_faults; content = λ tells. changes_widened (crash tells) (λ bytes all. tt) }

pub only_goes_on : {n : ℕ} {old mid new : HostState} → Only n old mid → Only n mid new → Only n old new
only_goes_on first second = record {
  tells = second.tells ∙ first.tells;
  say_faults = second.say_faults ∙ first.say_faults;
  content = λ tells. changes_on (first.content tells) (second.content (first.tells ∙ tells)) (λ bytes all. all);
}

-- reads, one behind the other

pub reads_nothing : (host : HostState) → OnlyReads host host
reads_nothing host = record { tells = refl; say_faults = refl; content = λ tells. record { disk = refl; images = started host (λ image is. is) } }

pub reads_go_on : {old mid new : HostState} → OnlyReads old mid → OnlyReads mid new → OnlyReads old new
reads_go_on first second = record {
  tells = second.tells ∙ first.tells;
  say_faults = second.say_faults ∙ first.say_faults;
  content = λ tells.
      let before = first.content tells in
      let behind = second.content (first.tells ∙ tells) in
      record { disk = behind.disk ∙ before.disk; images = goes_on before.images behind.images (λ image is. subst (λ (disk : Disk). IsImage disk image) before.disk is) };
}

pub same_bytes : {old new : HostState} → OnlyReads old new → IsTrue old.tells → (n : ℕ) → bytes_of new n ≡ bytes_of old n
same_bytes only tells n = ap (λ (disk : Disk). (disk.files n).bytes) (only.content tells).disk

-- reads write no file, so they are of any one file alone
pub reads_only : {n : ℕ} {old new : HostState} → OnlyReads old new → Only n old new
reads_only only = record { tells = only.tells; say_faults = only.say_faults; content = λ tells. nothing_changed (only.content tells) (λ bytes may. tt) }

-- calls that say nothing, one behind the other

pub silent_only : {n : ℕ} {old new : HostState} → Only n old new → SaysNothing old new
silent_only only = record {
  tells = only.tells;
  say_faults = only.say_faults;
  content = λ tells. let changes = only.content tells in record { said = changes.said; images = widened changes.images (λ image with. with.others.said) };
}

pub silent_reads : {old new : HostState} → OnlyReads old new → SaysNothing old new
silent_reads {old} {new} only = record {
  tells = only.tells;
  say_faults = only.say_faults;
  content = λ tells. let none = only.content tells in record { said = ap (λ (disk : Disk). disk.said) none.disk; images = widened none.images (λ image is. is.said) };
}

pub silent_on : {old mid new : HostState} → SaysNothing old mid → SaysNothing mid new → SaysNothing old new
silent_on {old} {mid} {new} first second = record {
  tells = second.tells ∙ first.tells;
  say_faults = second.say_faults ∙ first.say_faults;
  content = λ tells.
      let before = first.content tells in
      let behind = second.content (first.tells ∙ tells) in
      record { said = behind.said ∙ before.said; images = goes_on before.images behind.images (λ image is. is ∙ before.said) };
}
