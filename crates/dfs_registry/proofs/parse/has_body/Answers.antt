use Rattle.std.proofs.Common.{arith}
use Rattle.dfs_registry.proofs.Parsing.{too_short, by_listable, by_front}
use Rattle.dfs_registry.proofs.parse.has_body.Goals as goal
use Rattle.dfs_registry.proofs.parse.has_body.Goals.{then-bytes-lt-BODY_LEN-via-then-bytes-lt-BODY_LEN, then-bytes-lt-BODY_LEN-via-else-bytes-lt-BODY_LEN+then-bytes}

pub returns-then-bytes-lt-BODY_LEN : goal.returns-then-bytes-lt-BODY_LEN
returns-then-bytes-lt-BODY_LEN c =
    too_short c.args.bytes.now (elim c.then-bytes-lt-BODY_LEN.branch [
      | then-bytes-lt-BODY_LEN-via-then-bytes-lt-BODY_LEN w ↦ omega (arith, w.if-bytes-lt-BODY_LEN.true)
      | then-bytes-lt-BODY_LEN-via-else-bytes-lt-BODY_LEN+then-bytes w ↦ omega (arith, w.if-bytes.true)
    ])

pub returns-then-has_front : goal.returns-then-has_front
returns-then-has_front c = by_listable c.args.bytes.now _ _ c.if-bytes.false c.has_front.ensures c.if-has_front.true c.has_listable.ensures

pub returns-else-has_front : goal.returns-else-has_front
returns-else-has_front c = by_front c.args.bytes.now _ c.if-bytes.false c.has_front.ensures c.if-has_front.false
