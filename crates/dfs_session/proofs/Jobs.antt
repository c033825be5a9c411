-- The live jobs by their words: one more, one changed, one gone.
use Rattle.std.proofs.Common.{◌≡◌, ◌≢◌, ◌∙◌, ℕ, suc, Bool, true, false, cond, List, [], ◌∷◌, length, Option, Some, None, refl, sym, ap, subst}
use Rattle.std.proofs.lemmas.Option.{none-some}
use Rattle.std.specs.Prelude.{nat_lt, ◌||◌}
use Rattle.std.specs.List.{AllByRecursion, AllZip, list_any}
use Rattle.std.specs.Map.{lookup, set_value, remove_entry}
use Rattle.std.specs.BTreeMap.{insert_entry, is_at}
use Rattle.std.specs.Ordering.{is_eq, match_ordering}
use Rattle.std.specs.declared.cmp.Ordering.{Ordering}
use Rattle.std.specs.declared.cmp.Ordering.TheVariants.{Less, Equal, Greater}
use Rattle.dfs_script.specs.declared.JobWord.{JobWord}
use Rattle.dfs_job.specs.declared.job.Job.{Job as LiveJob}
use Rattle.dfs_host.specs.Host.{HostState}
use Rattle.dfs_job.specs.Job.{Job}
use Rattle.dfs_job.specs.Stands.{JobStands}
use Rattle.dfs_session.specs.Session.{word_cmp}
use Rattle.dfs_session.specs.Sound.{AreApart, NoneHas, number_of}
use Rattle.dfs_session.specs.Stands.{EntryStands}

abbrev pub Live : Type 0
Live = List (JobWord × LiveJob)

abbrev pub Plain : Type 0
Plain = List (JobWord × Job)

abbrev job_or : LiveJob → Option LiveJob → LiveJob
job_or job None = job
job_or job (Some other) = other

pub same_job : (x y : LiveJob) → Some x ≡ Some y → x ≡ y
same_job x y is = ap (job_or x) is

-- ---- what is so of each job

module _ (Q : LiveJob → Type 0) where
  abbrev Each : Live → Type 0
  Each es = AllByRecursion (λ e. Q e.1) es

  pub all_set : (test : JobWord → Bool) (es : Live) (x : LiveJob) → Q x → Each es → Each (set_value test es x)
  all_set test [] x q all = tt
  all_set test (e ∷ es) x q all = by (test e.0) (all_set test es x q all.1)
    where
      by : (b : Bool) → Each (set_value test es x) → Each (cond b ((e.0, x) ∷ es) (e ∷ set_value test es x))
      by true rest = (q, all.1)
      by false rest = (all.0, rest)

  pub all_remove : (test : JobWord → Bool) (es : Live) → Each es → Each (remove_entry test es)
  all_remove test [] all = tt
  all_remove test (e ∷ es) all = by (test e.0) (all_remove test es all.1)
    where
      by : (b : Bool) → Each (remove_entry test es) → Each (cond b es (e ∷ remove_entry test es))
      by true rest = all.1
      by false rest = (all.0, rest)

  pub all_insert : (es : Live) (word : JobWord) (x : LiveJob) → Q x → Each es → Each (insert_entry word_cmp es word x)
  all_insert [] word x q all = (q, tt)
  all_insert (e ∷ es) word x q all = by (word_cmp word e.0) (all_insert es word x q all.1)
    where
      by : (o : Ordering) → Each (insert_entry word_cmp es word x) → Each (match_ordering o ((word, x) ∷ e ∷ es) ((e.0, x) ∷ es) (e ∷ insert_entry word_cmp es word x))
      by Less rest = (q, all)
      by Equal rest = (q, all.1)
      by Greater rest = (all.0, rest)

  pub all_found : (test : JobWord → Bool) (es : Live) (x : LiveJob) → Each es → lookup test es ≡ Some x → Q x
  all_found test [] x all is = absurd (none-some x is)
  all_found test (e ∷ es) x all is = by (test e.0) (all_found test es x all.1) is
    where
      by : (b : Bool) → (lookup test es ≡ Some x → Q x) → cond b (Some e.1) (lookup test es) ≡ Some x → Q x
      by true rest first = subst Q (same_job e.1 x first) all.0
      by false rest later = rest later

-- ---- numbers that differ

pub apart_set : (test : JobWord → Bool) (es : Live) (old x : LiveJob) → lookup test es ≡ Some old → number_of x ≡ number_of old → AreApart es → AreApart (set_value test es x)
apart_set test [] old x is same apart = tt
apart_set test (e ∷ es) old x is same apart = by (test e.0) (λ later. apart_set test es old x later same apart.1) is
  where
    by : (b : Bool) → (lookup test es ≡ Some old → AreApart (set_value test es x)) → cond b (Some e.1) (lookup test es) ≡ Some old → AreApart (cond b ((e.0, x) ∷ es) (e ∷ set_value test es x))
    by true rest first = (subst (λ (n : ℕ). AllByRecursion (λ f. n ≢ number_of f.1) es) (ap number_of (same_job e.1 old first) ∙ sym same) apart.0, apart.1)
    by false rest later =
        let other = all_found (λ f. number_of e.1 ≢ number_of f) test es old apart.0 later in
        (all_set (λ f. number_of e.1 ≢ number_of f) test es x (λ is. other (is ∙ same)) apart.0, rest later)

pub apart_remove : (test : JobWord → Bool) (es : Live) → AreApart es → AreApart (remove_entry test es)
apart_remove test [] apart = tt
apart_remove test (e ∷ es) apart = by (test e.0) (apart_remove test es apart.1)
  where
    by : (b : Bool) → AreApart (remove_entry test es) → AreApart (cond b es (e ∷ remove_entry test es))
    by true rest = apart.1
    by false rest = (all_remove (λ f. number_of e.1 ≢ number_of f) test es apart.0, rest)

pub apart_insert : (es : Live) (word : JobWord) (x : LiveJob) → AllByRecursion (λ f. number_of x ≢ number_of f.1) es → AreApart es → AreApart (insert_entry word_cmp es word x)
apart_insert [] word x others apart = (tt, tt)
apart_insert (e ∷ es) word x others apart = by (word_cmp word e.0) (apart_insert es word x others.1 apart.1)
  where
    by : (o : Ordering) → AreApart (insert_entry word_cmp es word x) → AreApart (match_ordering o ((word, x) ∷ e ∷ es) ((e.0, x) ∷ es) (e ∷ insert_entry word_cmp es word x))
    by Less rest = (others, apart)
    by Equal rest = (others.1, apart.1)
    by Greater rest = (all_insert (λ f. number_of e.1 ≢ number_of f) es word x (λ is. others.0 (sym is)) apart.0, rest)

-- the jobs beside one have other numbers
pub removed_apart : (test : JobWord → Bool) (es : Live) (x : LiveJob) → lookup test es ≡ Some x → AreApart es → AllByRecursion (λ f. number_of x ≢ number_of f.1) (remove_entry test es)
removed_apart test [] x is apart = tt
removed_apart test (e ∷ es) x is apart = by (test e.0) (λ later. removed_apart test es x later apart.1) is
  where
    by : (b : Bool) → (lookup test es ≡ Some x → AllByRecursion (λ f. number_of x ≢ number_of f.1) (remove_entry test es)) → cond b (Some e.1) (lookup test es) ≡ Some x → AllByRecursion (λ f. number_of x ≢ number_of f.1) (cond b es (e ∷ remove_entry test es))
    by true rest first = subst (λ (y : LiveJob). AllByRecursion (λ f. number_of y ≢ number_of f.1) es) (same_job e.1 x first) apart.0
    by false rest later =
        let other = all_found (λ f. number_of e.1 ≢ number_of f) test es x apart.0 later in
        (λ is. other (sym is), rest later)

pub found_set : (test : JobWord → Bool) (es : Live) (old x : LiveJob) → lookup test es ≡ Some old → lookup test (set_value test es x) ≡ Some x
found_set test [] old x found = absurd cc
found_set test (e ∷ es) old x found = by (test e.0) refl (found_set test es old x) found
  where
    by : (b : Bool) → test e.0 ≡ b → (lookup test es ≡ Some old → lookup test (set_value test es x) ≡ Some x) → cond b (Some e.1) (lookup test es) ≡ Some old → lookup test (cond b ((e.0, x) ∷ es) (e ∷ set_value test es x)) ≡ Some x
    by true is rest found = ap (λ (b : Bool). cond b (Some x) (lookup test es)) is
    by false is rest found = ap (λ (b : Bool). cond b (Some e.1) (lookup test (set_value test es x))) is ∙ rest found

pub remove_set : (test : JobWord → Bool) (es : Live) (x : LiveJob) → remove_entry test (set_value test es x) ≡ remove_entry test es
remove_set test [] x = refl
remove_set test (e ∷ es) x = by (test e.0) (remove_set test es x) refl
  where
    by : (b : Bool) → remove_entry test (set_value test es x) ≡ remove_entry test es → test e.0 ≡ b → remove_entry test (cond b ((e.0, x) ∷ es) (e ∷ set_value test es x)) ≡ cond b es (e ∷ remove_entry test es)
    by true rest is = ap (λ (b : Bool). cond b es ((e.0, x) ∷ remove_entry test es)) is
    by false rest is = ap (λ (b : Bool). cond b (set_value test es x) (e ∷ remove_entry test (set_value test es x))) is ∙ ap (λ (l : Live). e ∷ l) rest

-- numbers that no job has

pub none_unset : (test : JobWord → Bool) (es : Live) (old x : LiveJob) (n : ℕ) → lookup test es ≡ Some old → number_of x ≡ number_of old → NoneHas n (set_value test es x) → NoneHas n es
none_unset test [] old x n is same none = tt
none_unset test (e ∷ es) old x n is same none = by (test e.0) (λ later. none_unset test es old x n later same) is none
  where
    by : (b : Bool) → (lookup test es ≡ Some old → NoneHas n (set_value test es x) → NoneHas n es) → cond b (Some e.1) (lookup test es) ≡ Some old → NoneHas n (cond b ((e.0, x) ∷ es) (e ∷ set_value test es x)) → NoneHas n (e ∷ es)
    by true rest first none = (λ has. none.0 (same ∙ ap number_of (sym (same_job e.1 old first)) ∙ has), none.1)
    by false rest later none = (none.0, rest later none.1)

pub none_unremoved : (test : JobWord → Bool) (es : Live) (x : LiveJob) (n : ℕ) → lookup test es ≡ Some x → number_of x ≢ n → NoneHas n (remove_entry test es) → NoneHas n es
none_unremoved test [] x n is other none = tt
none_unremoved test (e ∷ es) x n is other none = by (test e.0) (λ later. none_unremoved test es x n later other) is none
  where
    by : (b : Bool) → (lookup test es ≡ Some x → NoneHas n (remove_entry test es) → NoneHas n es) → cond b (Some e.1) (lookup test es) ≡ Some x → NoneHas n (cond b es (e ∷ remove_entry test es)) → NoneHas n (e ∷ es)
    by true rest first none = (λ has. other (ap number_of (sym (same_job e.1 x first)) ∙ has), none)
    by false rest later none = (none.0, rest later none.1)

pub none_uninserted : (es : Live) (word : JobWord) (x : LiveJob) (n : ℕ) → lookup (is_at (word_cmp word)) es ≡ None → NoneHas n (insert_entry word_cmp es word x) → (number_of x ≢ n) × NoneHas n es
none_uninserted [] word x n absent none = (none.0, tt)
none_uninserted (e ∷ es) word x n absent none = by (word_cmp word e.0) (none_uninserted es word x n) absent none
  where
    by : (o : Ordering) → (lookup (is_at (word_cmp word)) es ≡ None → NoneHas n (insert_entry word_cmp es word x) → (number_of x ≢ n) × NoneHas n es) → cond (is_eq o) (Some e.1) (lookup (is_at (word_cmp word)) es) ≡ None
        → NoneHas n (match_ordering o ((word, x) ∷ e ∷ es) ((e.0, x) ∷ es) (e ∷ insert_entry word_cmp es word x)) → (number_of x ≢ n) × NoneHas n (e ∷ es)
    by Less rest absent none = (none.0, none.1)
    by Equal rest absent none = absurd (none-some e.1 (sym absent))
    by Greater rest absent none = let both = rest absent none.1 in (both.0, (none.0, both.1))

any_behind : (b c : Bool) → c ≡ true → (b || c) ≡ true
any_behind true c is = refl
any_behind false c is = is

pub any_set : (test : JobWord → Bool) (es : Live) (old x : LiveJob) → lookup test es ≡ Some old → nat_lt 0 x.layers.log.refused ≡ true → list_any (λ e. nat_lt 0 e.1.layers.log.refused) (set_value test es x) ≡ true
any_set test [] old x is refused = absurd (none-some old is)
any_set test (e ∷ es) old x is refused = by (test e.0) (λ later. any_behind (nat_lt 0 e.1.layers.log.refused) _ (any_set test es old x later refused)) is
  where
    by : (b : Bool) → (lookup test es ≡ Some old → (nat_lt 0 e.1.layers.log.refused || list_any (λ f. nat_lt 0 f.1.layers.log.refused) (set_value test es x)) ≡ true) → cond b (Some e.1) (lookup test es) ≡ Some old → list_any (λ f. nat_lt 0 f.1.layers.log.refused) (cond b ((e.0, x) ∷ es) (e ∷ set_value test es x)) ≡ true
    by true rest first = ap (λ (b : Bool). b || list_any (λ f. nat_lt 0 f.1.layers.log.refused) es) refused
    by false rest later = rest later

-- ---- live jobs and plain ones

module _ (host : HostState) where
  abbrev pub FoundBoth : Option LiveJob → Option Job → Type 0
  FoundBoth None None = Unit {0}
  FoundBoth None (Some j) = ⊥
  FoundBoth (Some x) None = ⊥
  FoundBoth (Some x) (Some j) = JobStands host x j

  pub both_found : (test : JobWord → Bool) (es : Live) (fs : Plain) → AllZip (EntryStands host) es fs → FoundBoth (lookup test es) (lookup test fs)
  both_found test [] [] zip = tt
  both_found test [] (f ∷ fs) zip = absurd zip
  both_found test (e ∷ es) [] zip = absurd zip
  both_found test (e ∷ es) (f ∷ fs) zip = subst (λ (w : JobWord). FoundBoth (lookup test (e ∷ es)) (cond (test w) (Some f.1) (lookup test fs))) (sym zip.0.word) (by (test e.0) (both_found test es fs zip.1))
    where
      by : (b : Bool) → FoundBoth (lookup test es) (lookup test fs) → FoundBoth (cond b (Some e.1) (lookup test es)) (cond b (Some f.1) (lookup test fs))
      by true rest = zip.0.job
      by false rest = rest

  pub zip_remove : (test : JobWord → Bool) (es : Live) (fs : Plain) → AllZip (EntryStands host) es fs → AllZip (EntryStands host) (remove_entry test es) (remove_entry test fs)
  zip_remove test [] [] zip = tt
  zip_remove test [] (f ∷ fs) zip = absurd zip
  zip_remove test (e ∷ es) [] zip = absurd zip
  zip_remove test (e ∷ es) (f ∷ fs) zip =
      subst (λ (w : JobWord). AllZip (EntryStands host) (remove_entry test (e ∷ es)) (cond (test w) fs (f ∷ remove_entry test fs))) (sym zip.0.word) (by (test e.0) (zip_remove test es fs zip.1))
    where
      by : (b : Bool) → AllZip (EntryStands host) (remove_entry test es) (remove_entry test fs) → AllZip (EntryStands host) (cond b es (e ∷ remove_entry test es)) (cond b fs (f ∷ remove_entry test fs))
      by true rest = zip.1
      by false rest = (zip.0, rest)

  pub zip_insert : (es : Live) (fs : Plain) (word : JobWord) (x : LiveJob) (j : Job) → AllZip (EntryStands host) es fs → JobStands host x j → AllZip (EntryStands host) (insert_entry word_cmp es word x) (insert_entry word_cmp fs word j)
  zip_insert [] [] word x j zip is = (record { word = refl; job = is }, tt)
  zip_insert [] (f ∷ fs) word x j zip is = absurd zip
  zip_insert (e ∷ es) [] word x j zip is = absurd zip
  zip_insert (e ∷ es) (f ∷ fs) word x j zip is =
      subst (λ (w : JobWord). AllZip (EntryStands host) (insert_entry word_cmp (e ∷ es) word x) (match_ordering (word_cmp word w) ((word, j) ∷ f ∷ fs) ((w, j) ∷ fs) (f ∷ insert_entry word_cmp fs word j))) (sym zip.0.word)
      (by (word_cmp word e.0) (zip_insert es fs word x j zip.1 is))
    where
      by : (o : Ordering) → AllZip (EntryStands host) (insert_entry word_cmp es word x) (insert_entry word_cmp fs word j)
          → AllZip (EntryStands host) (match_ordering o ((word, x) ∷ e ∷ es) ((e.0, x) ∷ es) (e ∷ insert_entry word_cmp es word x)) (match_ordering o ((word, j) ∷ f ∷ fs) ((e.0, j) ∷ fs) (f ∷ insert_entry word_cmp fs word j))
      by Less rest = (record { word = refl; job = is }, zip)
      by Equal rest = (record { word = refl; job = is }, zip.1)
      by Greater rest = (zip.0, rest)

  pub zip_length : (es : Live) (fs : Plain) → AllZip (EntryStands host) es fs → length fs ≡ length es
  zip_length [] [] zip = refl
  zip_length [] (f ∷ fs) zip = absurd zip
  zip_length (e ∷ es) [] zip = absurd zip
  zip_length (e ∷ es) (f ∷ fs) zip = ap suc (zip_length es fs zip.1)
