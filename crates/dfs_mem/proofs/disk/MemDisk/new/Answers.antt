use Rattle.std.proofs.Common.{◌≤◌, List, sym, ◌∙◌, ap, subst, All}
use Rattle.std.proofs.lemmas.List.Elements.{All-nil}
use Rattle.dfs_host.specs.Disk.{Disk, IsSound}
use Rattle.dfs_host.proofs.Files.{sound_when_settled}
use Rattle.dfs_mem.specs.declared.deed.Kept.{Kept}
use Rattle.dfs_mem.specs.Deeds.{start_disk, disk_after}
use Rattle.dfs_mem.specs.Files.{bytes_in}
use Rattle.dfs_mem.proofs.disk.MemDisk.new.Goals as goal

pub invariant_of-result : goal.invariant_of-result
invariant_of-result c =
    let start = c.args.start.items in
    let said = c.args.said.items in
    let none = ap (λ (l : List Kept). disk_after l (start_disk start said)) (sym c.new.ensures.items) in
    record {
      differ = c.requires;
      numbered = subst (λ (l : List Kept). All (λ (k : Kept). k.call ≤ 0) l) (sym c.new.ensures.items) (All-nil (λ (k : Kept). k.call ≤ 0));
      reads = λ n. c.in_ok-files.ensures n ∙ ap (λ (l : List _). bytes_in l n) c.deref.ensures.value ∙ ap (λ (disk : Disk). (disk.files n).bytes) none;
      speaks = c.in_ok-now.ensures.items_if_clones_equal (λ x y same. same) ∙ c.deref-2.ensures.value ∙ ap (λ (disk : Disk). disk.said) none;
      sound = λ n. subst (λ (disk : Disk). IsSound (disk.files n)) none (sound_when_settled (bytes_in start n));
    }
