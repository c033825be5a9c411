use Rattle.std.proofs.Common.{◌++◌, ap, ◌∙◌, List, ℕ}
use Rattle.std.specs.Int.{w16, w32, w64, to_be_bytes}
use Rattle.dfs_record.specs.declared.Key.{Key}
use Rattle.dfs_record.specs.Record.{key_bytes}
use Rattle.dfs_record.proofs.Growing.{then}
use Rattle.dfs_fence.proofs.writing.append_fence.Goals as goal

pub returns-clause-spelled : goal.returns-clause-spelled
returns-clause-spelled c =
    let f = c.args.fence.now in
    let old = c.args.out.now.items in
    let first = c.in_ok-encode_key.ensures.spelled ∙ ap (λ (k : Key). c.extend_from_slice-3.new.self.items ++ key_bytes k) c.lend.ensures.value in
    let last = c.in_ok-encode_key-2.ensures.spelled ∙ ap (λ (k : Key). c.encode_key.new.out.items ++ key_bytes k) c.lend-2.ensures.value in
    let at_len = then old c.extend_from_slice.new.self.items c.extend_from_slice-2.new.self.items (to_be_bytes w64 f.at) (to_be_bytes w32 f.len)
    (c.in_ok-extend_from_slice.ensures.items ∙ ap (λ (l : List ℕ). old ++ l) c.to_be_bytes.ensures)
    (c.in_ok-extend_from_slice-2.ensures.items ∙ ap (λ (l : List ℕ). c.extend_from_slice.new.self.items ++ l) c.to_be_bytes-2.ensures) in
    let numbers = then old c.extend_from_slice-2.new.self.items c.extend_from_slice-3.new.self.items (to_be_bytes w64 f.at ++ to_be_bytes w32 f.len) (to_be_bytes w16 f.count) at_len
    (c.in_ok-extend_from_slice-3.ensures.items ∙ ap (λ (l : List ℕ). c.extend_from_slice-2.new.self.items ++ l) c.to_be_bytes-3.ensures) in
    let keyed = then old c.extend_from_slice-3.new.self.items c.encode_key.new.out.items (to_be_bytes w64 f.at ++ to_be_bytes w32 f.len ++ to_be_bytes w16 f.count) (key_bytes f.first) numbers first in
    then old c.encode_key.new.out.items c.encode_key-2.new.out.items (to_be_bytes w64 f.at ++ to_be_bytes w32 f.len ++ to_be_bytes w16 f.count ++ key_bytes f.first) (key_bytes f.last) keyed last
