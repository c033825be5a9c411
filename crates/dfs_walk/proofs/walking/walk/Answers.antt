use Rattle.std.proofs.Common.{[], length, ap, arith}
use Rattle.dfs_walk.proofs.walking.walk.Goals as goal

pub returns-in_err-arrive-clause-follows : goal.returns-in_err-arrive-clause-follows
returns-in_err-arrive-clause-follows g c = g.met.S.Space.follows_on _ _ _ [] [] c.in_ok-dir.ensures.reads.went_on c.in_err-arrive.ensures.reads.went_on

pub returns-clause-root : goal.returns-clause-root
returns-clause-root g c = (
  λ none. absurd (cc (none, c.in_ok-arrive.ensures.place)),
  λ root. absurd (omega (arith, ap length root, c.len-count.ensures.length)),
)

pub returns-clause-follows : goal.returns-clause-follows
returns-clause-follows g c = g.met.S.Space.follows_on _ _ _ [] [] c.in_ok-dir.ensures.reads.went_on c.in_ok-arrive.ensures.reads.went_on
