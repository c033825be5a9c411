use Rattle.std.proofs.Common.{ℕ, List, sym, ◌∙◌, ap, subst, arith}
use Rattle.dfs_host.specs.Disk.{Disk, IsSound, overwritten, written}
use Rattle.dfs_host.proofs.Files.{within_written, sound_when_written}
use Rattle.dfs_mem.specs.Deeds.{write_step}
use Rattle.dfs_mem.specs.Files.{bytes_at}
use Rattle.dfs_mem.specs.MemDisk.{disk_of}
use Rattle.dfs_mem.proofs.Steps.{sound_try}
use Rattle.dfs_mem.proofs.Deeds.{after_one, numbered_one, reads_put}
use Rattle.dfs_mem.proofs.disk.MemDisk.write.Goals as goal

pub invariant_of-self-2 : goal.invariant_of-self-2
invariant_of-self-2 c =
    let mem = c.args.self.now in
    let after = after_one mem.start.items mem.start_said.items mem.deeds.items _ _ _ c.keep.ensures.kept c.reserve.ensures.items ∙ ap (λ (l : List ℕ). write_step c.args.file c.args.at l c.args.done (disk_of mem)) (c.in_ok-copy.ensures.items_if_clones_equal (λ x y same. same)) in
    record {
      differ = mem.differ;
      numbered = numbered_one mem.start.items mem.start_said.items mem.deeds.items _ _ _ c.keep.ensures.kept c.reserve.ensures.items mem.last mem.numbered (omega (arith, c.requires.later));
      reads = λ m. c.in_ok-write_if.ensures.ok m
          ∙ reads_put c.args.file (λ k. bytes_at mem.files k) (disk_of mem) mem.reads c.args.done (written c.args.at c.args.bytes.now ((disk_of mem).files c.args.file)) _
          (ap (λ (l : List ℕ). overwritten c.args.at c.args.bytes.now l) (mem.reads c.args.file)) m
          ∙ ap (λ (disk : Disk). (disk.files m).bytes) (sym after);
      speaks = mem.speaks ∙ ap (λ (disk : Disk). disk.said) (sym after);
      sound = λ m. subst (λ (disk : Disk). IsSound (disk.files m)) (sym after)
          (sound_try c.args.file c.args.done (written c.args.at c.args.bytes.now ((disk_of mem).files c.args.file)) (disk_of mem) mem.sound (within_written c.args.at c.args.bytes.now _) (sound_when_written c.args.at c.args.bytes.now _ c.requires.inside (mem.sound c.args.file)) m);
    }
