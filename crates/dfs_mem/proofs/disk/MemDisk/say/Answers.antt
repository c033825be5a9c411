use Rattle.std.proofs.Common.{ℕ, List, ◌++◌, take, sym, ◌∙◌, ap, subst, arith}
use Rattle.dfs_host.specs.Disk.{Disk, IsSound}
use Rattle.dfs_mem.specs.Deeds.{say_step}
use Rattle.dfs_mem.specs.MemDisk.{disk_of}
use Rattle.dfs_mem.proofs.Deeds.{after_one, numbered_one}
use Rattle.dfs_mem.proofs.disk.MemDisk.say.Goals as goal

pub invariant_of-self-2 : goal.invariant_of-self-2
invariant_of-self-2 c =
    let mem = c.args.self.now in
    let after = after_one mem.start.items mem.start_said.items mem.deeds.items _ _ _ c.keep.ensures.kept c.reserve.ensures.items ∙ ap (λ (l : List ℕ). say_step (take c.args.count l) (disk_of mem)) (c.in_ok-copy.ensures.items_if_clones_equal (λ x y same. same)) in
    record {
      differ = mem.differ;
      numbered = numbered_one mem.start.items mem.start_said.items mem.deeds.items _ _ _ c.keep.ensures.kept c.reserve.ensures.items mem.last mem.numbered (omega (arith, c.requires.later));
      reads = λ m. mem.reads m ∙ ap (λ (disk : Disk). (disk.files m).bytes) (sym after);
      speaks = c.in_ok-extend_from_slice.ensures.items ∙ ap (λ (l : List ℕ). l ++ take c.args.count c.args.bytes.now) mem.speaks ∙ ap (λ (disk : Disk). disk.said) (sym after);
      sound = λ m. subst (λ (disk : Disk). IsSound (disk.files m)) (sym after)
          (mem.sound m);
    }
