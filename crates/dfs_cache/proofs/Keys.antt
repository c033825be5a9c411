-- Equality of keys: an equivalence, and exact.
use Rattle.std.proofs.Common.{◌≡◌, true, ◌==◌}
use Rattle.std.specs.Cmp.{IsEquivalence, and_equiv, on_equiv, nat_eq_equiv}
use Rattle.std.specs.Str.{bytes_eq}
use Rattle.std.proofs.lemmas.Bool.{and_parts, eqb-true}
use Rattle.std.proofs.lemmas.Cmp.{nat_list_eq_equiv}
use Rattle.std.proofs.lemmas.Slice.Eq.{bytes_eq-Decides}
use Rattle.dfs_record.specs.declared.DirId.{DirId}
use Rattle.dfs_record.specs.declared.Key.{Key}
use Rattle.dfs_cache.specs.Latest.{same_dir, same_key}

dirs_alike : IsEquivalence same_dir
dirs_alike = and_equiv (on_equiv (λ d. d.job) nat_eq_equiv) (on_equiv (λ d. d.counter) nat_eq_equiv)

pub keys_alike : IsEquivalence same_key
keys_alike = and_equiv (on_equiv (λ k. k.parent) dirs_alike) (on_equiv (λ k. k.name) nat_list_eq_equiv)

dirs_one : (a b : DirId) → same_dir a b ≡ true → a ≡ b
dirs_one a b h =
    let parts = and_parts (a.job == b.job) (a.counter == b.counter) h in
    let job : a.job ≡ b.job = eqb-true a.job b.job parts.0 in
    let counter : a.counter ≡ b.counter = eqb-true a.counter b.counter parts.1 in
    λ i. record { job = job i; counter = counter i }

pub keys_one : (a b : Key) → same_key a b ≡ true → a ≡ b
keys_one a b h =
    let parts = and_parts (same_dir a.parent b.parent) (bytes_eq a.name b.name) h in
    let parent : a.parent ≡ b.parent = dirs_one a.parent b.parent parts.0 in
    let name : a.name ≡ b.name = (bytes_eq-Decides a.name b.name).0 parts.1 in
    λ i. record { parent = parent i; name = name i }
