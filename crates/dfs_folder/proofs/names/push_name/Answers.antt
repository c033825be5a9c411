use Rattle.std.proofs.Common.{string_bytes, codes}
use Rattle.std.proofs.lemmas.List.{append_assoc}
use Rattle.dfs_folder.specs.Names.{hex_digits}
use Rattle.dfs_folder.proofs.FileNames.{name-of-log}
use Rattle.dfs_folder.proofs.names.push_name.Goals as goal

pub returns-clause-bytes : goal.returns-clause-bytes
returns-clause-bytes c =
    rw (name-of-log c.args.number c.if-number-eq0.false) (rw c.push_digits.ensures.bytes (rw c.push-2.ensures.bytes (append_assoc (string_bytes c.args.path.now) (codes "LOG.") (hex_digits 8 c.args.number))))
