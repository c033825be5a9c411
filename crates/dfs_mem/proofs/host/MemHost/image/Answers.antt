use Rattle.std.proofs.Common.{List, ℕ, sym, ◌∙◌, ap, subst}
use Rattle.dfs_host.specs.Disk.{FileState, MayLeave}
use Rattle.dfs_mem.specs.declared.disk.MemDisk.{MemDisk}
use Rattle.dfs_mem.specs.Deeds.{start_disk}
use Rattle.dfs_mem.specs.Images.{disk_at, held}
use Rattle.dfs_mem.specs.MemDisk.{disk_of}
use Rattle.dfs_mem.proofs.Images.{image_possible, in_order, left_at_moment}
use Rattle.dfs_mem.proofs.host.MemHost.image.Goals as goal

possible : goal.returns-clause-possible
possible c =
    let host = c.args.self.now in
    let choice = c.args.choice in
    record {
      files = λ n. subst (λ (l : List ℕ). MayLeave ((disk_at host choice.moment).files n) l)
          (sym (ap (λ (mem : MemDisk). ((disk_of mem).files n).bytes) c.starting.ensures.disk ∙ ap (λ (file : FileState). file.bytes) (c.in_ok-disk.ensures.files n)))
          (image_possible choice ((disk_at host choice.moment).files n) (in_order host.disk choice.moment n));
      said = ap (λ (mem : MemDisk). (disk_of mem).said) c.starting.ensures.disk ∙ c.in_ok-disk.ensures.said;
    }

pub returns-clause-possible : goal.returns-clause-possible
returns-clause-possible c = possible c

pub returns-clause-left : goal.returns-clause-left
returns-clause-left c =
    let mem = c.args.self.now.disk in
    left_at_moment c.args.choice.moment mem.deeds.items (start_disk mem.start.items mem.start_said.items) (held c.starting.result) (possible c)
