use Rattle.std.proofs.Common.{sym, ◌∙◌, ap, subst, arith}
use Rattle.dfs_host.specs.Disk.{Disk, IsSound, synced}
use Rattle.dfs_host.proofs.Files.{sound_when_settled}
use Rattle.dfs_mem.specs.MemDisk.{disk_of}
use Rattle.dfs_mem.proofs.Steps.{sound_put}
use Rattle.dfs_mem.proofs.Deeds.{after_one, numbered_one, reads_sync}
use Rattle.dfs_mem.proofs.disk.MemDisk.sync.Goals as goal

pub invariant_of-self-2 : goal.invariant_of-self-2
invariant_of-self-2 c =
    let mem = c.args.self.now in
    let after = after_one mem.start.items mem.start_said.items mem.deeds.items _ _ _ c.keep.ensures.kept c.reserve.ensures.items in
    record {
      differ = mem.differ;
      numbered = numbered_one mem.start.items mem.start_said.items mem.deeds.items _ _ _ c.keep.ensures.kept c.reserve.ensures.items mem.last mem.numbered (omega (arith, c.requires));
      reads = λ m. mem.reads m ∙ sym (reads_sync c.args.file (disk_of mem) m) ∙ ap (λ (disk : Disk). (disk.files m).bytes) (sym after);
      speaks = mem.speaks ∙ ap (λ (disk : Disk). disk.said) (sym after);
      sound = λ m. subst (λ (disk : Disk). IsSound (disk.files m)) (sym after)
          (sound_put c.args.file (synced ((disk_of mem).files c.args.file)) (disk_of mem) mem.sound (sound_when_settled _) m);
    }
