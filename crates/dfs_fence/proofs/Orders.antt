-- Keys that are below and at most others.
use Rattle.std.proofs.Common.{◌≡◌, true, false, refl, ap, subst, ◌∙◌}
use Rattle.std.specs.Prelude.{IsTrue}
use Rattle.std.specs.Ordering.{is_le, is_lt, ordering_reverse}
use Rattle.std.specs.declared.cmp.Ordering.{Ordering}
use Rattle.std.specs.declared.cmp.Ordering.TheVariants.{Less, Equal, Greater}
use Rattle.std.specs.BTreeMap.Comparable.{le_lt_trans}
use Rattle.dfs_record.specs.declared.Key.{Key}
use Rattle.dfs_record.specs.Key.{key_cmp, keys_total, keys_exact}
use Rattle.dfs_record.specs.Records.{IsBelow}
use Rattle.dfs_fence.specs.Index.{IsAtMost}

pub less : (o : Ordering) → is_lt o ≡ true → o ≡ Less
less Less e = refl
less Equal e = absurd cc
less Greater e = absurd cc

pub at_most_below : (a b c : Key) → IsAtMost a b → IsBelow b c → IsBelow a c
at_most_below a b c le lt = le_lt_trans keys_total a b c le lt

pub below_below : (a b c : Key) → IsBelow a b → IsBelow b c → IsBelow a c
below_below a b c lt lt' = keys_total.trans a b c lt lt'

pub below_at_most : (a b c : Key) → IsBelow a b → IsAtMost b c → IsBelow a c
below_at_most a b c lt le = by_case (key_cmp b c) refl le
  where
    by_case : (o : Ordering) → key_cmp b c ≡ o → IsTrue (is_le o) → IsBelow a c
    by_case Less e le = keys_total.trans a b c lt e
    by_case Equal e le = subst (IsBelow a) (keys_exact b c e) lt
    by_case Greater e le = absurd cc

-- what is below is not above
pub not_both : (a b : Key) → IsBelow a b → IsAtMost b a → ⊥
not_both a b lt le =
    let above : is_le (key_cmp b a) ≡ false = ap is_le (keys_total.antisymm b a ∙ ap ordering_reverse lt) in
    absurd (cc (above, le))

-- what is not below is above or the same
pub not_below : (a b : Key) → is_lt (key_cmp a b) ≡ false → IsAtMost b a
not_below a b not_lt = ap is_le (keys_total.antisymm b a) ∙ by_case (key_cmp a b) not_lt
  where
    by_case : (o : Ordering) → is_lt o ≡ false → is_le (ordering_reverse o) ≡ true
    by_case Less e = absurd cc
    by_case Equal e = refl
    by_case Greater e = refl
