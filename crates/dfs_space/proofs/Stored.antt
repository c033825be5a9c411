-- What is stored in an ordered map stays valid.
use Rattle.std.proofs.Common.{◌≡◌, Bool, cond, true, false, List, [], ◌∷◌, All, IfSome, Result, Ok, Err, OnOk, OnErr, Bor, map, ◌++◌, append_assoc, ap, ◌∙◌, sym, subst}
use Rattle.std.specs.Prelude.{Option, Some, None, option_copied}
use Rattle.std.specs.declared.cmp.Ordering.TheVariants.{Less, Equal, Greater}
use Rattle.std.specs.Ordering.{match_ordering}
use Rattle.std.specs.BTreeMap.{insert_entry}
use Rattle.std.specs.Map.{lookup, remove_entry}
use Rattle.std.proofs.lemmas.List.Elements.{All-cons, All-head, All-tail, All-weaker}
use Rattle.std.proofs.lemmas.Map.Entries.{All-lookup}
use Rattle.dfs_record.specs.declared.Key.{Key}
use Rattle.dfs_record.specs.declared.Entry.{Entry}
use Rattle.dfs_record.specs.Key.{key_cmp}
use Rattle.dfs_record.specs.declared.Name.{Name}
use Rattle.dfs_record.specs.Name.{IsName}
use Rattle.dfs_record.specs.Record.{IsKey, IsEntry}
use Rattle.dfs_space.specs.Children.{IsChild, child_of}
use Rattle.dfs_space.specs.PlainSpace.{IsStored}

-- a list that a call changed on Ok alone
pub either_way : {T E X : Type 0} (P : List X → Type 0) (r : Result T E) (new a b : List X) → OnOk r (new ≡ a) → OnErr r (new ≡ b) → P a → P b → P new
either_way P (Ok x) new a b ok err p q = subst P (sym ok) p
either_way P (Err e) new a b ok err p q = subst P (sym err) q

pub whichever : {X : Type 0} (P : List X → Type 0) (test : Bool) (new a b : List X) → new ≡ cond test a b → P a → P b → P new
whichever P true new a b is p q = subst P (sym is) p
whichever P false new a b is p q = subst P (sym is) q

pub stored_put : (es : List (Key × Entry)) (k : Key) (x : Entry) → IsKey k → IsEntry x → All IsStored es → All IsStored (insert_entry key_cmp es k x)
stored_put [] k x key entry all = All-cons IsStored (k, x) [] (record { key = key; entry = entry }) all
stored_put (e ∷ es) k x key entry all =
    let first = All-head IsStored e es all in
    let others = All-tail IsStored e es all in
    elim (key_cmp k e.0) as (λ o. All IsStored (match_ordering o ((k, x) ∷ e ∷ es) ((e.0, x) ∷ es) (e ∷ insert_entry key_cmp es k x))) [
      | Less ↦ All-cons IsStored (k, x) (e ∷ es) (record { key = key; entry = entry }) all
      | Equal ↦ All-cons IsStored (e.0, x) es (record { key = first.key; entry = entry }) others
      | Greater ↦ All-cons IsStored e _ first (stored_put es k x key entry others)
    ]

pub stored_removed : (test : Key → Bool) (es : List (Key × Entry)) → All IsStored es → All IsStored (remove_entry test es)
stored_removed test [] all = all
stored_removed test (e ∷ es) all =
    let others = All-tail IsStored e es all in
    elim (test e.0) as (λ b. All IsStored (cond b es (e ∷ remove_entry test es))) [
      | true ↦ others
      | false ↦ All-cons IsStored e _ (All-head IsStored e es all) (stored_removed test es others)
    ]

-- what a look-up finds, and lends
pub stored_found : (test : Key → Bool) (es : List (Key × Entry)) (lent : Option (Bor Entry)) → option_copied lent ≡ lookup test es → All IsStored es → IfSome lent (λ entry. IsEntry entry.now)
stored_found test es None is all = tt
stored_found test es (Some entry) is all =
    let found : IfSome (lookup test es) IsEntry = All-lookup IsEntry test es (All-weaker IsStored (λ e. IsEntry e.1) (λ e stored. stored.entry) es all) in
    let P : Option Entry → Type 0 = λ o. IfSome o IsEntry in
    subst P (sym is) found

-- a turn of a loop over entries: the copies of what was lent are the child
pub child_stored : (e : Key × Entry) (es rest : List (Key × Entry)) (child : Name × Entry) → es ≡ e ∷ rest → All IsStored es → child.0 ≡ e.0.name → child.1 ≡ e.1 → IsChild child
child_stored e es rest child is all name entry =
    let first : IsStored e = All-head IsStored e rest (subst (All IsStored) is all) in
    record { name = subst IsName (sym name) first.key.name; entry = subst IsEntry (sym entry) first.entry }

pub one_listed : (all es rest : List (Key × Entry)) (e : Key × Entry) (child : Name × Entry) (old new : List (Name × Entry)) → es ≡ e ∷ rest → child.0 ≡ e.0.name → child.1 ≡ e.1
    → new ≡ old ++ child ∷ [] → old ++ map child_of es ≡ map child_of all → new ++ map child_of rest ≡ map child_of all
one_listed all es rest e child old new is name entry pushed so_far =
    let same : child ≡ child_of e = λ i. (name i, entry i) in
    ap (λ l. l ++ map child_of rest) (pushed ∙ ap (λ x. old ++ x ∷ []) same)
    ∙ append_assoc old (child_of e ∷ []) (map child_of rest)
    ∙ ap (λ l. old ++ map child_of l) (sym is)
    ∙ so_far
