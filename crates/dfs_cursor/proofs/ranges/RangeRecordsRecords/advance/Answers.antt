use Rattle.std.proofs.Common.{subst, sym}
use Rattle.std.specs.Prelude.{option_copied, None}
use Rattle.std.specs.Bool.{IsTrue}
use Rattle.dfs_cursor.specs.Ranges.{begins_at}
use Rattle.dfs_cursor.proofs.Parts.{begins_behind, part_behind, reach_behind, comes_behind, read_on}
use Rattle.dfs_cursor.proofs.ranges.RangeRecordsRecords.advance.Goals as goal

pub invariant_of-self : goal.invariant_of-self
invariant_of-self g c =
    let s = c.args.self.now in
    let low = option_copied s.low in
    let high = option_copied s.high in
    record { begins = subst (λ l. IsTrue (begins_at low high l)) (sym c.advance.ensures.rest) (begins_behind low high (g.C.Records.rest s.inner) (g.met.C.Records.rest_rises s.inner) s.begins c.requires) }

pub returns-clause-rest : goal.returns-clause-rest
returns-clause-rest g c =
    let s = c.args.self.now in
    let low = option_copied s.low in
    let high = option_copied s.high in
    rw c.advance.ensures.rest (part_behind low high (g.C.Records.rest s.inner) (g.met.C.Records.rest_rises s.inner) s.begins c.requires)

pub returns-clause-comes : goal.returns-clause-comes
returns-clause-comes g c =
    let s = c.args.self.now in
    comes_behind (option_copied s.low) (option_copied s.high) (g.C.Records.rest s.inner) (g.met.C.Records.rest_rises s.inner) s.begins c.requires
    (g.C.Records.Comes s.inner) (g.C.Records.Comes c.advance.new.self) (g.met.C.Records.comes_begins s.inner) c.advance.ensures.comes

pub returns-clause-unread : goal.returns-clause-unread
returns-clause-unread g c =
    let s = c.args.self.now in
    let low = option_copied s.low in
    let high = option_copied s.high in
    read_on 0 high _ _ _ _ (rw c.advance.ensures.rest (reach_behind low high (g.C.Records.rest s.inner) (g.met.C.Records.rest_rises s.inner) s.begins c.requires)) c.advance.ensures.unread

pub returns-clause-bound : goal.returns-clause-bound
returns-clause-bound g c =
    let s = c.args.self.now in
    let low = option_copied s.low in
    let high = option_copied s.high in
    read_on None high _ _ _ _ (rw c.advance.ensures.rest (reach_behind low high (g.C.Records.rest s.inner) (g.met.C.Records.rest_rises s.inner) s.begins c.requires)) c.advance.ensures.bound
