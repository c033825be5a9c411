-- What a crash leaves of file 0 in each of the two steps of a commit.
use Rattle.std.proofs.Common.{◌≡◌, inl, inr, ℕ, ◌+◌, ◌*◌, ◌<◌, ◌≤◌, Bool, false, List, [], ◌∷◌, ◌++◌, length, get_or, sym, ◌∙◌, ap, subst, arith, append_assoc, length-append}
use Rattle.std.proofs.lemmas.List.{append-nil, length_push}
use Rattle.std.proofs.lemmas.Bool.{cases_eq}
use Rattle.dfs_host.specs.Disk.{Torn, overwritten}
use Rattle.dfs_registry.specs.declared.listed.Listed.{Listed}
use Rattle.dfs_registry.specs.Body.{body, repeats}
use Rattle.dfs_registry.specs.Reading.{header, registry, listing, blocks, at_rest, gate_of, IsBody, MayFollow, IsListing, HasOldOrNew}
use Rattle.dfs_registry.specs.Seen.{RegistryState, IsPlaced, IsPrepared}
use Rattle.dfs_registry.proofs.Bodies.{length-body, short_name}
use Rattle.dfs_registry.proofs.Gates.{shut_gate, stands_for}
use Rattle.dfs_registry.proofs.Writes.{torn_end, overwritten_end, torn_byte, overwritten_byte}

pub may_follow_push : (before bs : List Listed) (b : Listed) → MayFollow before bs → IsBody b → repeats (before ++ bs) b ≡ false → MayFollow before (bs ++ b ∷ [])
may_follow_push before [] b apart is new = (is, (ap (λ (l : List Listed). repeats l b) (sym (append-nil before)) ∙ new, tt))
may_follow_push before (x ∷ bs) b (first, (other, apart)) is new =
    (first, (other, may_follow_push (before ++ x ∷ []) bs b apart is (ap (λ (l : List Listed). repeats l b) (append_assoc before (x ∷ []) bs) ∙ new)))

pub empty_listing : IsListing []
empty_listing = record { apart = tt; few = omega arith }

pub listing_push : (bs : List Listed) (b : Listed) → IsListing bs → IsBody b → repeats bs b ≡ false → length bs < 4096 → IsListing (bs ++ b ∷ [])
listing_push bs b is fits new few = record { apart = may_follow_push [] bs b is.apart fits new; few = omega (arith, length_push bs b) }

pub blocks-push : (bs : List Listed) (b : Listed) (rest : List ℕ) → blocks (bs ++ b ∷ []) ++ rest ≡ blocks bs ++ 1 ∷ (body b ++ rest)
unfolding blocks
blocks-push [] b rest = ap (λ (l : List ℕ). 1 ∷ l ++ rest) (append-nil (body b))
blocks-push (x ∷ bs) b rest =
    ap (λ (l : List ℕ). 1 ∷ l) (append_assoc (body x) (blocks (bs ++ b ∷ [])) rest
    ∙ ap (λ (l : List ℕ). body x ++ l) (blocks-push bs b rest)
    ∙ sym (append_assoc (body x) (blocks bs) (1 ∷ (body b ++ rest))))

pub length-blocks-push : (bs : List Listed) (b : Listed) → length (blocks (bs ++ b ∷ [])) ≡ length (blocks bs) + (29 + length b.name)
length-blocks-push bs b =
    omega (arith, ap length (sym (append-nil (blocks (bs ++ b ∷ []))) ∙ blocks-push bs b []), length-append (blocks bs) (1 ∷ (body b ++ [])), length-append (body b) [], length-body b)

-- a gate and a body have at most 93 bytes
pub blocks_short : (before bs : List Listed) → MayFollow before bs → length (blocks bs) ≤ 93 * length bs
unfolding blocks
blocks_short before [] apart = omega arith
blocks_short before (b ∷ bs) (is, (new, apart)) =
    omega (arith, blocks_short (before ++ b ∷ []) bs apart, length-append (body b) (blocks bs), length-body b, short_name b is.listable)

pub length-at_rest : (bs : List Listed) → length (at_rest bs) ≡ gate_of bs + 1
length-at_rest bs = omega (arith, length-append (blocks bs) (0 ∷ []))

module _ (bs : List Listed) (b : Listed) (is : IsListing bs) (fits : IsBody b) (new : repeats bs b ≡ false) (few : length bs < 4096) where
  front : List ℕ
  front = header ++ blocks bs

  pub behind : List ℕ
  behind = body b ++ 0 ∷ []

  length-front : length front ≡ gate_of bs
  unfolding front
  length-front = omega arith

  -- the file with a body behind the closed gate
  pub staged : List ℕ
  staged = front ++ 0 ∷ behind

  -- behind the standing gate nothing counts
  pub first_image : (n : ℕ) (c : List ℕ) → Torn (gate_of bs + 1) n (at_rest bs) c → registry c ≡ listing bs
  first_image n c torn =
      ap registry (torn_end (gate_of bs + 1) n (at_rest bs) c (length-at_rest bs) torn ∙ append_assoc (header ++ blocks bs) (0 ∷ []) _)
      ∙ stands_for bs _ is (shut_gate 0 _ (omega arith))

  pub is_staged : (mid : List ℕ) → mid ≡ overwritten (gate_of bs + 1) behind (at_rest bs) → mid ≡ staged
  unfolding staged front
  is_staged mid at = at ∙ overwritten_end (gate_of bs + 1) behind (at_rest bs) (length-at_rest bs) ∙ append_assoc front (0 ∷ []) behind

  opened : (rest : List ℕ) → front ++ 1 ∷ (body b ++ rest) ≡ header ++ blocks (bs ++ b ∷ []) ++ rest
  unfolding front
  opened rest = append_assoc header (blocks bs) (1 ∷ (body b ++ rest)) ∙ ap (λ (l : List ℕ). header ++ l) (sym (blocks-push bs b rest)) ∙ sym (append_assoc header (blocks (bs ++ b ∷ [])) rest)

  at_gate : (gate : ℕ) → HasOldOrNew bs b (front ++ gate ∷ behind)
  unfolding front behind
  at_gate gate = elim (cases_eq gate 1) [
    | inl one ↦ inr (ap (λ n. registry (front ++ n ∷ behind)) one ∙ ap registry (opened (0 ∷ [])) ∙ stands_for (bs ++ b ∷ []) (0 ∷ []) (listing_push bs b is fits new few) (shut_gate 0 [] (omega arith)))
    | inr other ↦ inl (stands_for bs (gate ∷ behind) is (shut_gate gate behind other))
  ]

  -- the body behind the gate counts where the gate is open
  pub second_image : (mid : List ℕ) → mid ≡ overwritten (gate_of bs + 1) behind (at_rest bs) → (c : List ℕ) → Torn (gate_of bs) 1 mid c → HasOldOrNew bs b c
  unfolding staged
  second_image mid at c torn =
      subst (HasOldOrNew bs b) (sym (torn_byte front behind 0 (gate_of bs) length-front c (subst (λ (f : List ℕ). Torn (gate_of bs) 1 f c) (is_staged mid at) torn))) (at_gate (get_or c (gate_of bs) 0))

  pub committed : (mid done : List ℕ) → mid ≡ overwritten (gate_of bs + 1) behind (at_rest bs) → done ≡ overwritten (gate_of bs) (1 ∷ []) mid → done ≡ at_rest (bs ++ b ∷ [])
  unfolding staged behind
  committed mid done at over =
      over ∙ ap (λ (f : List ℕ). overwritten (gate_of bs) (1 ∷ []) f) (is_staged mid at) ∙ overwritten_byte front behind 0 (gate_of bs) length-front 1 ∙ opened (0 ∷ [])

-- at rest the file has the list
pub rests : (bs : List Listed) → IsListing bs → registry (at_rest bs) ≡ listing bs
rests bs is = stands_for bs (0 ∷ []) is (shut_gate 0 [] (omega arith))

-- The same for what the code has: the gate's place and the bytes.

pub gate_low : (bs : List Listed) (gate : ℕ) → IsListing bs → gate ≡ gate_of bs → gate ≤ 380936
gate_low bs gate is here = omega (arith, here, blocks_short [] bs is.apart, is.few)

pub piece_long : (b : Listed) (piece : List ℕ) → piece ≡ body b ++ 0 ∷ [] → length piece ≡ 29 + length b.name
piece_long b piece is = omega (arith, ap length is, length-append (body b) (0 ∷ []), length-body b)

pub piece_short : (b : Listed) (piece : List ℕ) → IsBody b → piece ≡ body b ++ 0 ∷ [] → length piece ≤ 93
piece_short b piece fits is = omega (arith, piece_long b piece is, short_name b fits.listable)

pub gate_past : (bs new : List Listed) (b : Listed) (gate : ℕ) (piece : List ℕ) → gate ≡ gate_of bs → piece ≡ body b ++ 0 ∷ [] → new ≡ bs ++ b ∷ [] → gate + length piece ≡ gate_of new
gate_past bs new b gate piece here is added =
    omega (arith, here, piece_long b piece is, ap gate_of added, length-blocks-push bs b)

-- a publication that can be committed behind these, with its bytes and the place of the standing gate
pub record Ready (bs : List Listed) (b : Listed) (piece : List ℕ) (gate : ℕ) : Type 0 where
  pub listing : IsListing bs
  pub fits : IsBody b
  pub new : repeats bs b ≡ false
  pub few : length bs < 4096
  pub place : gate ≡ gate_of bs
  pub spelled : piece ≡ body b ++ 0 ∷ []

-- the registry and the publication as they are seen, and their fields
pub ready : (r : RegistryState) (bs : List Listed) (spare : ℕ) (spent : Bool) (gate : ℕ) (p b : Listed) (name bytes piece : List ℕ)
    → (let seen : RegistryState = record { entries = bs; spare = spare; spent = spent } in seen ≡ r) → IsPlaced bs gate
    → b ≡ p → IsPrepared b name bytes → piece ≡ bytes → repeats r.entries p ≡ false → length r.entries < 4096 → Ready r.entries p piece gate
ready r bs spare spent gate p b name bytes piece seen placed is prepared same new few =
    let entries = ap (λ (v : RegistryState). v.entries) seen in
    record {
      listing = subst IsListing entries placed.listing;
      fits = subst IsBody is prepared.fits;
      new = new;
      few = few;
      place = placed.place ∙ ap gate_of entries;
      spelled = same ∙ prepared.spelled ∙ ap (λ (x : Listed). body x ++ 0 ∷ []) is;
    }

-- the list that was kept, as it is seen
pub added : {r : RegistryState} {bs new : List Listed} {spare : ℕ} {spent : Bool} {p b : Listed}
    → (let seen : RegistryState = record { entries = bs; spare = spare; spent = spent } in seen ≡ r) → b ≡ p → new ≡ bs ++ b ∷ [] → new ≡ r.entries ++ p ∷ []
added {bs = bs} {p = p} seen is new =
    new ∙ ap (λ (x : Listed). bs ++ x ∷ []) is ∙ ap (λ (v : RegistryState). v.entries ++ p ∷ []) seen

module _ {bs : List Listed} {b : Listed} {piece : List ℕ} {gate : ℕ} (ready : Ready bs b piece gate) where
  pub low_gate : gate ≤ 380936
  low_gate = gate_low bs gate ready.listing ready.place

  pub short_piece : length piece ≤ 93
  short_piece = piece_short b piece ready.fits ready.spelled

  pub placed_push : (new : List Listed) (next : ℕ) → new ≡ bs ++ b ∷ [] → next ≡ gate + length piece → IsPlaced new next
  placed_push new next added far = record {
    listing = subst IsListing (sym added) (listing_push bs b ready.listing ready.fits ready.new ready.few);
    place = far ∙ gate_past bs new b gate piece ready.place ready.spelled added;
  }

  module _ (old : List ℕ) (rest : old ≡ at_rest bs) where
    pub first : (c : List ℕ) → Torn (gate + 1) (length piece) old c → HasOldOrNew bs b c
    first c torn =
        inl (first_image bs b ready.listing ready.fits ready.new ready.few (length piece) c
        (subst (λ n. Torn (n + 1) (length piece) (at_rest bs) c) ready.place (subst (λ (f : List ℕ). Torn (gate + 1) (length piece) f c) rest torn)))

    mid_is : (mid : List ℕ) → mid ≡ overwritten (gate + 1) piece old → mid ≡ overwritten (gate_of bs + 1) (behind bs b ready.listing ready.fits ready.new ready.few) (at_rest bs)
    unfolding behind
    mid_is mid at =
        at ∙ ap (λ n. overwritten (n + 1) piece old) ready.place ∙ ap (λ (l : List ℕ). overwritten (gate_of bs + 1) l old) ready.spelled
        ∙ ap (λ (l : List ℕ). overwritten (gate_of bs + 1) (body b ++ 0 ∷ []) l) rest

    pub second : (mid : List ℕ) → mid ≡ overwritten (gate + 1) piece old → (c : List ℕ) → Torn gate 1 mid c → HasOldOrNew bs b c
    second mid at c torn = second_image bs b ready.listing ready.fits ready.new ready.few mid (mid_is mid at) c (subst (λ n. Torn n 1 mid c) ready.place torn)

    pub stands_after : (mid done : List ℕ) → mid ≡ overwritten (gate + 1) piece old → done ≡ overwritten gate (1 ∷ []) mid → done ≡ at_rest (bs ++ b ∷ [])
    stands_after mid done at over =
        committed bs b ready.listing ready.fits ready.new ready.few mid done (mid_is mid at) (over ∙ ap (λ n. overwritten n (1 ∷ []) mid) ready.place)
