-- The matches between sources.
use Rattle.std.proofs.Common.{◌≡◌, ℕ, ◌<◌, ◌≤◌, inl, inr, Bool, true, false, cond, List, [], ◌∷◌, length, get_or, refl, sym, ap, subst, ◌∙◌, arith, nat_lt, ltb-true, ltb-false}
use Rattle.std.specs.Prelude.{Option}
use Rattle.std.specs.Ordering.{is_lt, is_gt, is_eq, ordering_reverse}
use Rattle.std.specs.Cmp.{upto, tied_itself}
use Rattle.std.specs.declared.cmp.Ordering.{Ordering}
use Rattle.std.specs.declared.cmp.Ordering.TheVariants.{Less, Equal, Greater}
use Rattle.dfs_record.specs.declared.Key.{Key}
use Rattle.dfs_record.specs.declared.Record.{Record}
use Rattle.dfs_record.specs.Key.{key_cmp, keys_total, keys_exact}
use Rattle.dfs_record.specs.Records.{Files, KeysRise}
use Rattle.dfs_merge.specs.declared.tree.Tree.{Tree}
use Rattle.dfs_merge.specs.declared.tree.Tree.TheVariants.{Source as Player, Match'}
use Rattle.dfs_merge.specs.Sources.{Source, ended, sources, IsAdvanced}
use Rattle.dfs_merge.specs.Rank.{Rank, rank, rank_by, rank_at, rank_cmp, better_of, have_one_key, IsFirst, OthersPassed}
use Rattle.dfs_merge.specs.Tree.{winner_of, IsTournament, AreReplayed, ArePassedIn}
use Rattle.dfs_merge.specs.Laws.{AreLists}
use Rattle.dfs_merge.proofs.Firsts.{rank_total, stands}
use Rattle.dfs_merge.proofs.Passing.{others_kept, others_join, source_same, source_len, len_source, true_not_false}

-- ---- the better of two

turned_gt : (a b : Rank) → is_gt (rank_cmp a b) ≡ is_lt (rank_cmp b a)
turned_gt a b = ap is_gt (rank_total.antisymm a b) ∙ by (rank_cmp b a)
  where
    by : (o : Ordering) → is_gt (ordering_reverse o) ≡ is_lt o
    by Less = refl
    by Equal = refl
    by Greater = refl

not_before : (x y z : Rank) → is_lt (rank_cmp x y) ≡ false → is_lt (rank_cmp y z) ≡ false → is_lt (rank_cmp x z) ≡ false
not_before x y z p q = sym (turned_gt z x) ∙ upto rank_total z y x (turned_gt z y ∙ q) (turned_gt y x ∙ p)

not_itself : (x : Rank) → is_lt (rank_cmp x x) ≡ false
not_itself x = ap is_lt (tied_itself rank_total x)

not_back : (x y : Rank) → is_lt (rank_cmp y x) ≡ true → is_lt (rank_cmp x y) ≡ false
not_back x y h = ap is_lt (rank_total.antisymm x y) ∙ by (rank_cmp y x) h
  where
    by : (o : Ordering) → is_lt o ≡ true → is_lt (ordering_reverse o) ≡ false
    by Less e = refl
    by Equal e = absurd (true_not_false (sym e))
    by Greater e = absurd (true_not_false (sym e))

better_left : (ss : List Source) (a b : ℕ) → is_lt (rank_cmp (rank_at ss a) (rank_at ss (better_of ss a b))) ≡ false
better_left ss a b = by (is_lt (rank_cmp (rank_at ss b) (rank_at ss a))) refl
  where
    by : (c : Bool) → is_lt (rank_cmp (rank_at ss b) (rank_at ss a)) ≡ c → is_lt (rank_cmp (rank_at ss a) (rank_at ss (cond c b a))) ≡ false
    by true e = not_back (rank_at ss a) (rank_at ss b) e
    by false e = not_itself (rank_at ss a)

better_right : (ss : List Source) (a b : ℕ) → is_lt (rank_cmp (rank_at ss b) (rank_at ss (better_of ss a b))) ≡ false
better_right ss a b = by (is_lt (rank_cmp (rank_at ss b) (rank_at ss a))) refl
  where
    by : (c : Bool) → is_lt (rank_cmp (rank_at ss b) (rank_at ss a)) ≡ c → is_lt (rank_cmp (rank_at ss b) (rank_at ss (cond c b a))) ≡ false
    by true e = not_itself (rank_at ss b)
    by false e = e

one_of : (c : Bool) (a b low middle high : ℕ) → low ≤ a → a < middle → middle ≤ b → b < high → (low ≤ cond c b a) × (cond c b a < high)
one_of true a b low middle high p q r s = (omega arith, s)
one_of false a b low middle high p q r s = (p, omega arith)

-- ---- a tree

pub winner_within : (t : Tree) (ss : List Source) (low high : ℕ) → IsTournament ss low high t → (low ≤ winner_of t) × (winner_of t < high)
winner_within (Player i) ss low high h = (omega (arith, h.0), omega (arith, h.0, h.1))
winner_within (Match' winner middle p left q right) ss low high h =
    let l = winner_within left ss low middle h.2 in
    let r = winner_within right ss middle high h.3 in
    subst (λ w. (low ≤ w) × (w < high)) (sym h.1) (one_of (is_lt (rank_cmp (rank_at ss (winner_of right)) (rank_at ss (winner_of left)))) (winner_of left) (winner_of right) low middle high l.0 l.1 r.0 r.1)

-- no source of a tree stands before its winner
pub winner_least : (t : Tree) (ss : List Source) (low high : ℕ) → IsTournament ss low high t → (i : ℕ) → low ≤ i → i < high → is_lt (rank_cmp (rank_at ss i) (rank_at ss (winner_of t))) ≡ false
winner_least (Player j) ss low high h i a b =
    let same : i ≡ j = omega (arith, h.0, h.1) in
    subst (λ w. is_lt (rank_cmp (rank_at ss i) (rank_at ss w)) ≡ false) same (not_itself (rank_at ss i))
winner_least (Match' winner middle p left q right) ss low high h i a b = subst (λ w. is_lt (rank_cmp (rank_at ss i) (rank_at ss w)) ≡ false) (sym h.1) (by (nat_lt i middle) refl (winner_least left ss low middle h.2 i a) (λ m. winner_least right ss middle high h.3 i m b))
  where
    by : (c : Bool) → nat_lt i middle ≡ c → (i < middle → is_lt (rank_cmp (rank_at ss i) (rank_at ss (winner_of left))) ≡ false) → (middle ≤ i → is_lt (rank_cmp (rank_at ss i) (rank_at ss (winner_of right))) ≡ false)
        → is_lt (rank_cmp (rank_at ss i) (rank_at ss (better_of ss (winner_of left) (winner_of right)))) ≡ false
    by true e l r = not_before (rank_at ss i) (rank_at ss (winner_of left)) _ (l (ltb-true i middle e)) (better_left ss (winner_of left) (winner_of right))
    by false e l r = not_before (rank_at ss i) (rank_at ss (winner_of right)) _ (r (ltb-false i middle e)) (better_right ss (winner_of left) (winner_of right))

-- other sources don't matter to a tree
pub tournament_same : (t : Tree) (ss news : List Source) (low high : ℕ) → ((i : ℕ) → low ≤ i → i < high → get_or news i ended ≡ get_or ss i ended) → IsTournament ss low high t → IsTournament news low high t
tournament_same (Player j) ss news low high same h = h
tournament_same (Match' winner middle p left q right) ss news low high same h =
    let l = winner_within left ss low middle h.2 in
    let r = winner_within right ss middle high h.3 in
    let here = same (winner_of left) l.0 (omega (arith, l.1, r.0, r.1)) in
    let there = same (winner_of right) (omega (arith, l.0, l.1, r.0)) r.1 in (
      h.0,
      h.1 ∙ sym (λ k. cond (is_lt (rank_cmp (rank (there k) (winner_of right)) (rank (here k) (winner_of left)))) (winner_of right) (winner_of left)),
      tournament_same left ss news low middle (λ i a b. same i a (omega (arith, r.0, r.1))) h.2,
      tournament_same right ss news middle high (λ i a b. same i (omega (arith, l.0, l.1)) b) h.3,
    )

-- ---- playing again

pub replayed_left : (now : List Source) (source middle : ℕ) (left new_left right : Tree) → source < middle → AreReplayed now source left new_left
    → (low high : ℕ) (old : List Source) → ((i : ℕ) → ¬ (i ≡ source) → get_or now i ended ≡ get_or old i ended) → IsTournament old low middle left → IsTournament old middle high right → IsTournament now low middle new_left × IsTournament now middle high right
replayed_left now source middle left new_left right under again low high old same l r =
    (again low middle old same l, tournament_same right old now middle high (λ i a b. same i (λ e. omega arith)) r)

pub replayed_right : (now : List Source) (source middle : ℕ) (left right new_right : Tree) → middle ≤ source → AreReplayed now source right new_right
    → (low high : ℕ) (old : List Source) → ((i : ℕ) → ¬ (i ≡ source) → get_or now i ended ≡ get_or old i ended) → IsTournament old low middle left → IsTournament old middle high right → IsTournament now low middle left × IsTournament now middle high new_right
replayed_right now source middle left right new_right over again low high old same l r =
    (tournament_same left old now low middle (λ i a b. same i (λ e. omega arith)) l, again middle high old same r)

-- ---- sources with another key

-- what doesn't stand before a source, which has another key than one that it doesn't stand before, has another key too
apart_from : (lj lw lt : List Record) (uj uw ut j w t : ℕ) → is_lt (rank_cmp (rank_by lj uj j) (rank_by lw uw w)) ≡ false → is_lt (rank_cmp (rank_by lw uw w) (rank_by lt ut t)) ≡ false → have_one_key lw lt ≡ false → have_one_key lj lt ≡ false
apart_from [] lw lt uj uw ut j w t p q one = refl
apart_from (x ∷ xs) lw [] uj uw ut j w t p q one = refl
apart_from (x ∷ xs) [] (r ∷ rs) uj uw ut j w t p q one =
    let none : uw ≡ 0 = stands [] uw w t r.key q in
    absurd (true_not_false (subst (λ u. is_lt (rank_cmp (rank_by (x ∷ xs) uj j) (rank_by [] u w)) ≡ false) none p))
apart_from (x ∷ xs) (y ∷ ys) (r ∷ rs) uj uw ut j w t p q one = by (key_cmp x.key r.key) refl
  where
    tied : (o : Ordering) → is_lt o ≡ false → is_lt (ordering_reverse o) ≡ false → is_eq o ≡ true
    tied Less a b = absurd (true_not_false a)
    tied Equal a b = refl
    tied Greater a b = absurd (true_not_false b)

    by : (o : Ordering) → key_cmp x.key r.key ≡ o → is_eq o ≡ false
    by Less e = refl
    by Greater e = refl
    by Equal e =
        let low = (stands (y ∷ ys) uw w t r.key q).0 in
        let high = (stands (x ∷ xs) uj j w y.key p).0 in
        let up : is_lt (ordering_reverse (key_cmp y.key r.key)) ≡ false = ap is_lt (sym (keys_total.antisymm r.key y.key)) ∙ subst (λ k. is_lt (key_cmp k y.key) ≡ false) (keys_exact x.key r.key e) high in
        absurd (true_not_false (sym (tied (key_cmp y.key r.key) low up) ∙ one))

module _ {S : Type 0} (rest : S → List Record) (unread : S → ℕ) (bound : S → Option Key) (Comes : S → Files → List Record → Type 0)
    (rises : (s : S) → KeysRise (rest s)) (lists : (s : S) (files : Files) (l : List Record) → Comes s files l → AreLists rest unread s l) where
  abbrev Behind : List S → ℕ → ℕ → ℕ → Type 0
  Behind ss first low high = (i : ℕ) → low ≤ i → i < high → is_lt (rank_cmp (rank_at (sources rest unread bound ss) i) (rank_at (sources rest unread bound ss) first)) ≡ false

  pub passed_none : (tree : Tree) (olds seen : List S) (t winner : ℕ) → winner ≡ winner_of tree → seen ≡ olds
      → have_one_key (get_or (sources rest unread bound seen) winner ended).rest (get_or (sources rest unread bound seen) t ended).rest ≡ false
      → (low high : ℕ) → IsTournament (sources rest unread bound olds) low high tree → Behind olds t low high → OthersPassed rest unread bound Comes t low high olds olds
  passed_none tree olds seen t winner is same one low high tour behind =
      let ss = sources rest unread bound olds in
      let w = winner_of tree in
      let within = winner_within tree ss low high tour in
      let other : have_one_key (get_or ss w ended).rest (get_or ss t ended).rest ≡ false =
      subst (λ l. have_one_key (get_or (sources rest unread bound l) w ended).rest (get_or (sources rest unread bound l) t ended).rest ≡ false) same
      (subst (λ n. have_one_key (get_or (sources rest unread bound seen) n ended).rest (get_or (sources rest unread bound seen) t ended).rest ≡ false) is one) in
      others_kept rest unread bound Comes rises lists olds t low high (λ j a b ne.
      apart_from (get_or ss j ended).rest (get_or ss w ended).rest (get_or ss t ended).rest (get_or ss j ended).unread (get_or ss w ended).unread (get_or ss t ended).unread j w t
      (winner_least tree ss low high tour j a b) (behind w within.0 within.1) other)

  -- first one side, and then the other
  pub passed_both : (olds curs news : List S) (t middle : ℕ) (left right new_left new_right : Tree) → ArePassedIn rest unread bound Comes t left new_left olds curs → ArePassedIn rest unread bound Comes t right new_right curs news
      → (low high : ℕ) → IsTournament (sources rest unread bound olds) low middle left → IsTournament (sources rest unread bound olds) middle high right → Behind olds t low high
      → OthersPassed rest unread bound Comes t low high olds news × IsTournament (sources rest unread bound news) low middle new_left × IsTournament (sources rest unread bound news) middle high new_right
  passed_both olds curs news t middle left right new_left new_right pass_left pass_right low high l r behind =
      let so = sources rest unread bound olds in
      let sc = sources rest unread bound curs in
      let sn = sources rest unread bound news in
      let wl = winner_within left so low middle l in
      let wr = winner_within right so middle high r in
      let a : low ≤ middle = omega (arith, wl.0, wl.1) in
      let b : middle ≤ high = omega (arith, wr.0, wr.1) in
      let p = pass_left low middle l (λ i m n. behind i m (omega arith)) in
      let first : get_or sc t ended ≡ get_or so t ended = source_same rest unread bound Comes rises lists olds curs t p.0.len p.0.same in
      let later : (i : ℕ) → middle ≤ i → get_or sc i ended ≡ get_or so i ended = λ i m. source_same rest unread bound Comes rises lists olds curs i p.0.len (λ d. p.0.outside i d (inr m)) in
      let r' = tournament_same right so sc middle high (λ i m n. later i m) r in
      let q = pass_right middle high r' (λ i m n. ap is_lt (λ k. rank_cmp (rank (later i m k) i) (rank (first k) t)) ∙ behind i (omega arith) n) in
      let earlier : (i : ℕ) → i < middle → get_or sn i ended ≡ get_or sc i ended = λ i m. source_same rest unread bound Comes rises lists curs news i q.0.len (λ d. q.0.outside i d (inl m)) in (
        others_join rest unread bound Comes rises lists olds curs news t low middle high a b p.0 q.0,
        tournament_same new_left sc sn low middle (λ i m n. earlier i n) p.1,
        q.1,
      )

  pub winner_first : (olds : List S) (tree : Tree) → IsTournament (sources rest unread bound olds) 0 (length olds) tree → IsFirst (sources rest unread bound olds) (winner_of tree)
  winner_first olds tree tour =
      let ss = sources rest unread bound olds in
      let within = winner_within tree ss 0 (length olds) tour in
      record { within = source_len rest unread bound olds (winner_of tree) within.1; least = λ i l. winner_least tree ss 0 (length olds) tour i (omega arith) (len_source rest unread bound olds i l) }

  pub passed_whole : (olds curs : List S) (tree new_tree : Tree) (t : ℕ) → t ≡ winner_of tree → IsTournament (sources rest unread bound olds) 0 (length olds) tree → ArePassedIn rest unread bound Comes t tree new_tree olds curs
      → IsFirst (sources rest unread bound olds) t × OthersPassed rest unread bound Comes t 0 (length olds) olds curs × IsTournament (sources rest unread bound curs) 0 (length olds) new_tree
  passed_whole olds curs tree new_tree t e tour passed =
      let first : IsFirst (sources rest unread bound olds) t = subst (IsFirst (sources rest unread bound olds)) (sym e) (winner_first olds tree tour) in
      let both = passed 0 (length olds) tour (λ i a b. first.least i (source_len rest unread bound olds i b)) in
      (first, both.0, both.1)

  pub replayed_whole : (curs news : List S) (tree new_tree : Tree) (t n : ℕ) → n ≡ length curs → IsTournament (sources rest unread bound curs) 0 n tree → IsAdvanced rest unread bound Comes t curs news → AreReplayed (sources rest unread bound news) t tree new_tree
      → IsTournament (sources rest unread bound news) 0 (length news) new_tree
  replayed_whole curs news tree new_tree t n e tour a again =
      subst (λ m. IsTournament (sources rest unread bound news) 0 m new_tree) (e ∙ sym a.len)
      (again 0 n (sources rest unread bound curs) (λ i ne. source_same rest unread bound Comes rises lists curs news i a.len (λ d. a.others i d ne)) tour)
