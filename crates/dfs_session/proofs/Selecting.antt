-- What a job selects, name by name.
use Rattle.std.proofs.Common.{◌≡◌, ◌∙◌, ℕ, ◌+◌, ◌≤◌, ◌<◌, max, Bool, true, false, cond, List, [], ◌∷◌, ◌++◌, Option, Some, None, take, drop, refl, sym, ap, subst, arith}
use Rattle.std.proofs.lemmas.Bool.{eq-eqb, eqb-true}
use Rattle.std.proofs.lemmas.List.{map-append}
use Rattle.std.proofs.lemmas.Option.{none-some}
use Rattle.std.specs.Prelude.{◌||◌, nat_eq, slice_get, filter_map, find, is_some, map, not, IsTrue, Result, Ok, Err, IfNone, IfOk, IfSome}
use Rattle.std.specs.List.{AllByRecursion, AllZip, list_all, cons_option}
use Rattle.std.proofs.lemmas.List.Elements.{filter_map-append}
use Rattle.dfs_host.specs.Counts.{RoseBy}
use Rattle.dfs_host.specs.Disk.{FileState}
use Rattle.dfs_host.specs.Fault.{NoFault}
use Rattle.dfs_host.specs.Host.{HostState, Told, OnlyReads, bytes_of}
use Rattle.dfs_record.specs.declared.Record.{Record}
use Rattle.dfs_record.specs.declared.SnapName.{SnapName}
use Rattle.dfs_record.specs.Delta.{Delta, records_of}
use Rattle.dfs_record.specs.Record.{IsRecord}
use Rattle.dfs_registry.specs.declared.listed.Listed.{Listed}
use Rattle.dfs_registry.specs.Body.{greatest_job, has_name, lists_job}
use Rattle.dfs_change.specs.declared.change.Change.{Change}
use Rattle.dfs_change.specs.Identities.{FitsJob}
use Rattle.dfs_change.specs.Meant.{log_meaning}
use Rattle.dfs_table.specs.Identities.{IsWithin}
use Rattle.dfs_table.specs.Stored.{IsStored, run_records}
use Rattle.dfs_table.specs.Writer.{AreIn}
use Rattle.dfs_table.proofs.Stays.{all_append}
use Rattle.dfs_view.specs.Layers.{LiesIn}
use Rattle.dfs_view.proofs.Parts.{records_in_file, run_valid}
use Rattle.dfs_job.specs.Stands.{IsEarlier, IsSelectable, IsStoredFor}
use Rattle.dfs_session.specs.declared.selection.Selection.TheVariants.{Damaged}
use Rattle.dfs_session.specs.Files.{publication_of, publications_of}
use Rattle.dfs_session.specs.Selected.{AreChosen, listed_as, is_listed, chosen_in, IsSelection}
use Rattle.dfs_session.specs.Session.{Publication, Registry, changes_of, is_damaged}
use Rattle.dfs_session.specs.declared.keeping.Kept.{Kept}
use Rattle.dfs_session.specs.Kept.{IsInside, IsKept, IsOpened, IsOwn}
use Rattle.dfs_session.specs.Reads.{Knows, first_reads}
use Rattle.dfs_session.specs.Sound.{IsEntry}
use Rattle.dfs_job.proofs.Apart.{selectable_still}
use Rattle.dfs_session.proofs.Kept.{reads_keep}
use Rattle.dfs_session.proofs.Lists.{mapped, take_next, parted, find-append, not_all}

-- what was selected of the names before an index
pub record SoFar (start now : HostState) (ls : List Listed) (kept : Kept) (line : List SnapName) (index : ℕ) (cs : List Change) : Type 0 where
  pub chosen : Told start (AreChosen start (chosen_in ls (take index line)) cs)
  pub entries : AllByRecursion (IsEntry ls) cs
  pub inside : AllByRecursion IsInside cs
  pub only : OnlyReads start now
  pub none : NoFault start now
  pub names : map (λ c. c.listed.name) cs ≡ take index line
  pub reads : AllByRecursion (λ l. IsKept kept l.job) (chosen_in ls (take index line)) → now.reads ≡ start.reads
  pub anew : (known : SnapName → Bool) → Knows ls kept known → RoseBy (first_reads known cs) start.reads now.reads

-- ---- a change set that was opened

both_fit : (job : ℕ) (rs : List Record) → AllByRecursion IsRecord rs → AllByRecursion (IsWithin job) rs → AllByRecursion (FitsJob job) rs
both_fit job [] valid within = tt
both_fit job (r ∷ rs) valid within = (record { valid = valid.0; within = within.0 }, both_fit job rs valid.1 within.1)

-- an opened change set may be selected
pub opened_selectable : (host : HostState) (l : Listed) (c : Change) (d : Delta) → c.listed ≡ l → IsStored (bytes_of host l.job) c.run.value d → AreIn l.job c.run.value.tables
    → AllByRecursion (IsWithin l.job) (run_records (bytes_of host l.job) c.run.value.tables) → IsSelectable host c
opened_selectable host l c d is stored inside within =
    let job : l.job ≡ c.listed.job = ap (λ (x : Listed). x.job) (sym is) in
    let lies : LiesIn host l.job c.run.value = record { each = stored.each; inside = inside } in
    let same = records_in_file host l.job c.run.value.tables inside in
    let valid : AllByRecursion IsRecord (records_of d) = subst (AllByRecursion IsRecord) (same ∙ stored.records) (run_valid host l.job c.run.value lies) in
    let fits : AllByRecursion (FitsJob l.job) (records_of d) = both_fit l.job (records_of d) valid (subst (AllByRecursion (IsWithin l.job)) stored.records within) in
    record {
      changes = d;
      stored = subst (λ n. IsStored (bytes_of host n) c.run.value d) job stored;
      lies = subst (λ n. LiesIn host n c.run.value) job lies;
      own = subst (λ n. AllByRecursion (FitsJob n) (records_of d)) job fits;
    }

-- it is stored for what its log means
pub opened_for : (host : HostState) (l : Listed) (c : Change) (d : Delta) → c.listed ≡ l → IsStored (bytes_of host l.job) c.run.value d → IsStoredFor host c d
opened_for host l c d is stored = subst (λ n. IsStored (bytes_of host n) c.run.value d) (ap (λ (x : Listed). x.job) (sym is)) stored

zip_more : {A B : Type 0} (R : A → B → Type 0) (xs : List A) (ys : List B) (x : A) (y : B) → AllZip R xs ys → R x y → AllZip R (xs ++ x ∷ []) (ys ++ y ∷ [])
zip_more R [] [] x y zip r = (r, tt)
zip_more R [] (b ∷ ys) x y zip r = absurd zip
zip_more R (a ∷ xs) [] x y zip r = absurd zip
zip_more R (a ∷ xs) (b ∷ ys) x y zip r = (zip.0, zip_more R xs ys x y zip.1 r)

-- ---- the publications of the names

pub all_split : {X : Type 0} (P : X → Type 0) (xs ys : List X) → AllByRecursion P (xs ++ ys) → AllByRecursion P xs × AllByRecursion P ys
all_split P [] ys all = (tt, all)
all_split P (x ∷ xs) ys all = let rest = all_split P xs ys all.1 in ((all.0, rest.0), rest.1)

module _ (files : ℕ → List ℕ) (ls : List Listed) (names : List SnapName) (k : ℕ) (name : SnapName) (l : Listed) (at : slice_get names k ≡ Some name) (listed : listed_as ls name ≡ Some l) where
  abbrev was : Registry
  was = publications_of files (chosen_in ls (take k names))

  pub chosen_next : chosen_in ls (take (k + 1) names) ≡ chosen_in ls (take k names) ++ l ∷ []
  chosen_next = ap (filter_map (listed_as ls)) (take_next names k name at) ∙ filter_map-append (listed_as ls) (take k names) (name ∷ []) ∙ ap (λ (o : Option Listed). chosen_in ls (take k names) ++ cons_option o []) listed

  pub chosen_whole : chosen_in ls names ≡ chosen_in ls (take k names) ++ l ∷ chosen_in ls (drop (k + 1) names)
  chosen_whole =
      ap (filter_map (listed_as ls)) (parted names k name at) ∙ filter_map-append (listed_as ls) (take k names) (name ∷ drop (k + 1) names)
      ∙ ap (λ (o : Option Listed). chosen_in ls (take k names) ++ cons_option o (chosen_in ls (drop (k + 1) names))) listed

  pub next_chosen : (start : HostState) → bytes_of start ≡ files → (cs : List Change) (c : Change) (d : Delta) → log_meaning (files l.job) l ≡ Some d → IsStoredFor start c d → IsOwn start c → AreChosen start (chosen_in ls (take k names)) cs
      → AreChosen start (chosen_in ls (take (k + 1) names)) (cs ++ c ∷ [])
  next_chosen start same cs c d has stored own so_far =
      let p : Publication = publication_of files l in
      let next : publications_of (bytes_of start) (chosen_in ls (take (k + 1) names)) ≡ was ++ p ∷ [] =
      ap (λ f. publications_of f (chosen_in ls (take (k + 1) names))) same ∙ ap (publications_of files) chosen_next ∙ map-append (publication_of files) (chosen_in ls (take k names)) (l ∷ []) in
      let before : publications_of (bytes_of start) (chosen_in ls (take k names)) ≡ was = ap (λ f. publications_of f (chosen_in ls (take k names))) same in
      let changes : changes_of (was ++ p ∷ []) ≡ changes_of was ++ d ∷ [] = filter_map-append (λ q. q.change) was (p ∷ []) ∙ ap (λ (o : Option Delta). changes_of was ++ cons_option o []) has in
      record {
        whole = ap (find is_damaged) next ∙ find-append is_damaged was (p ∷ []) (ap (find is_damaged) (sym before) ∙ so_far.whole) ∙ ap (λ (o : Option Delta). cond (not (is_some o)) (Some p) None) has;
        stored = subst (AllZip (IsStoredFor start) (cs ++ c ∷ [])) (sym (ap changes_of next ∙ changes))
            (zip_more (IsStoredFor start) cs (changes_of was) c d (subst (λ ps. AllZip (IsStoredFor start) cs (changes_of ps)) before so_far.stored) stored);
        opened = all_append (IsOwn start) cs (c ∷ []) so_far.opened (own, tt);
      }

  pub first_damaged : (start : HostState) → bytes_of start ≡ files → (cs : List Change) → log_meaning (files l.job) l ≡ None → AreChosen start (chosen_in ls (take k names)) cs → IsSelection start (chosen_in ls names) (Damaged l.name)
  first_damaged start same cs has so_far =
      let p : Publication = publication_of files l in
      let rest : Registry = publications_of files (chosen_in ls (drop (k + 1) names)) in
      let whole : publications_of (bytes_of start) (chosen_in ls names) ≡ was ++ p ∷ rest =
      ap (λ f. publications_of f (chosen_in ls names)) same ∙ ap (publications_of files) chosen_whole ∙ map-append (publication_of files) (chosen_in ls (take k names)) (l ∷ chosen_in ls (drop (k + 1) names)) in
      let before : publications_of (bytes_of start) (chosen_in ls (take k names)) ≡ was = ap (λ f. publications_of f (chosen_in ls (take k names))) same in
      (p, ap (find is_damaged) whole ∙ find-append is_damaged was (p ∷ rest) (ap (find is_damaged) (sym before) ∙ so_far.whole) ∙ ap (λ (o : Option Delta). cond (not (is_some o)) (Some p) (find is_damaged rest)) has, refl)

  -- where all are kept, nothing was read with this one too
  pub read_no_more : (after : HostState) {start now : HostState} {kept : Kept} {cs : List Change} → SoFar start now ls kept names k cs → (IsKept kept l.job → after.reads ≡ now.reads) → AllByRecursion (λ m. IsKept kept m.job) (chosen_in ls names)
      → after.reads ≡ start.reads
  read_no_more after {start} {now} {kept} so_far here all =
      let parts = all_split (λ m. IsKept kept m.job) (chosen_in ls (take k names)) (l ∷ chosen_in ls (drop (k + 1) names)) (subst (AllByRecursion (λ m. IsKept kept m.job)) chosen_whole all) in
      here parts.1.0 ∙ so_far.reads parts.0

-- an opened change set is what the files had before calls that only read
pub opened_before : (start now : HostState) → OnlyReads start now → IsTrue start.tells → (l : Listed) (c : Change) → IsOpened now l c → IsOpened start l c
opened_before start now only tells l c is =
    let same : (n : ℕ) → bytes_of start n ≡ bytes_of now n = λ n. sym (ap (λ (f : FileState). f.bytes) (reads_keep only tells n)) in
    record {
      changes = is.changes;
      meant = ap (λ b. log_meaning b l) (same l.job) ∙ is.meant;
      stored = subst (λ b. IsStored b c.run.value is.changes) (sym (same c.listed.job)) is.stored;
      selectable = selectable_still now start c (same c.listed.job) is.selectable;
    }

pub if_some_at : {T : Type 0} (o : Option T) (P : T → Type 0) (x : T) → IfSome o P → o ≡ Some x → P x
if_some_at o P x all is = subst (λ (q : Option _). IfSome q P) is all

pub if_none_at : {T : Type 0} (o : Option T) (P : Type 0) → IfNone o P → o ≡ None → P
if_none_at o P all is = subst (λ (q : Option _). IfNone q P) is all

-- a name of the selection is listed
pub must_be_listed : (ls : List Listed) (names : List SnapName) (k : ℕ) (name : SnapName) → slice_get names k ≡ Some name → IsTrue (list_all (is_listed ls) names) → listed_as ls name ≡ None → ⊥
must_be_listed ls names k name at all none = subst IsNo all (subst IsNo (sym (not_all (is_listed ls) names k name at (ap is_some none))) tt)
  where
    IsNo : Bool → Type 0
    IsNo true = ⊥
    IsNo false = Unit {0}

-- ---- the jobs of what is selected

abbrev listed_or : Listed → Option Listed → Listed
listed_or l None = l
listed_or l (Some m) = m

-- the change set of a name is that of a listed job
pub found_listed : (name : SnapName) (ls : List Listed) (l : Listed) → listed_as ls name ≡ Some l → lists_job ls l.job ≡ true
found_listed name [] l is = absurd (none-some l is)
found_listed name (m ∷ ls) l is = by (has_name name m) (found_listed name ls l) is
  where
    behind : (b c : Bool) → c ≡ true → (b || c) ≡ true
    behind true c is = refl
    behind false c is = is

    by : (b : Bool) → (listed_as ls name ≡ Some l → lists_job ls l.job ≡ true) → cond b (Some m) (listed_as ls name) ≡ Some l → (nat_eq m.job l.job || lists_job ls l.job) ≡ true
    by true rest first = ap (λ (b : Bool). b || lists_job ls l.job) (eq-eqb m.job l.job (ap (λ (x : Listed). x.job) (ap (listed_or m) first)))
    by false rest later = behind (nat_eq m.job l.job) (lists_job ls l.job) (rest later)

-- and so up to the greatest one
listed_greatest : (ls : List Listed) (a : ℕ) → lists_job ls a ≡ true → a ≤ greatest_job ls
listed_greatest [] a is = absurd cc
listed_greatest (l ∷ ls) a is = by (nat_eq l.job a) refl (listed_greatest ls a) is
  where
    by : (b : Bool) → nat_eq l.job a ≡ b → (lists_job ls a ≡ true → a ≤ greatest_job ls) → (b || lists_job ls a) ≡ true → a ≤ max l.job (greatest_job ls)
    by true here rest is = let same : l.job ≡ a = eqb-true l.job a here in omega (arith, same)
    by false here rest is = omega (arith, rest is)

pub listed_earlier : (ls : List Listed) (number : ℕ) (cs : List Change) → greatest_job ls < number → AllByRecursion (IsEntry ls) cs → AllByRecursion (IsEarlier number) cs
listed_earlier ls number cs below entries = mapped (IsEntry ls) (IsEarlier number) cs (λ c is. omega (arith, below, listed_greatest ls c.listed.job (found_listed c.listed.name ls c.listed is))) entries

pub if_ok_by : {T E : Type 0} (result : Result T E) (P : T → Type 0) (v : T) → IfOk result (λ x. x ≡ v) → P v → IfOk result P
if_ok_by (Ok x) P v is p = subst P (sym is) p
if_ok_by (Err e) P v is p = tt

abbrev IsFine : {T E : Type 0} → Result T E → Type 0
IsFine (Ok x) = Unit {0}
IsFine (Err e) = ⊥

pub no_fault : {T E : Type 0} (result : Result T E) (x : T) (e : E) → result ≡ Ok x → result ≡ Err e → ⊥
no_fault result x e is was = subst IsFine was (subst IsFine (sym is) tt)
