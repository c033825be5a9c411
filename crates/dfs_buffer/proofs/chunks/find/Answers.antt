use Rattle.std.proofs.Common.{arith, ap, sym, ◌∙◌, subst, length, get_or, ◌<◌, ltb-false}
use Rattle.dfs_record.specs.Lend.{key_of}
use Rattle.dfs_buffer.specs.Chunks.{before, from, BeginsWith, chunk_at}
use Rattle.dfs_buffer.proofs.Places.{joined_place, chunk_read, first_read}
use Rattle.dfs_buffer.proofs.Puts.{value_free, value_found, valid_found, first_or, unturned, turned_back}
use Rattle.dfs_buffer.proofs.chunks.find.Goals as goal

pub returns-then-not-place-clause-value : goal.returns-then-not-place-clause-value
returns-then-not-place-clause-value c =
    let cs = c.args.chunks.now in
    let p = c.place_of-place.result in
    let key = key_of c.args.key in
    let b = from (λ x. x.items) cs p.chunk p.index in
    value_free (before (λ x. x.items) cs p.chunk p.index) b _ key (joined_place (λ x. x.items) cs p.chunk p.index) c.place_of-place.ensures.below (subst (λ t. BeginsWith t b key) (unturned p.found c.if-not-place.true) c.place_of-place.ensures.above)

pub returns-in_err-rec-clause-value : goal.returns-in_err-rec-clause-value
returns-in_err-rec-clause-value c =
    let cs = c.args.chunks.now in
    let p = c.place_of-place.result in
    let same = chunk_read (λ x. x.items) cs p.chunk c.in_ok-records.records.now c.deref.result.now c.in_ok-records.ensures.lookup.0 c.in_ok-records.ensures.lookup.1 c.deref.ensures.value in
    let inside : p.index < length (chunk_at (λ x. x.items) cs p.chunk) = c.place_of-place.ensures.inside (turned_back p.found c.if-not-place.false) in
    absurd (omega (arith, inside, ap length same, ltb-false _ _ (sym c.in_err-rec.ensures.lookup.0)))

pub returns-clause-value : goal.returns-clause-value
returns-clause-value c =
    let cs = c.args.chunks.now in
    let p = c.place_of-place.result in
    let key = key_of c.args.key in
    let r = c.in_ok-rec.rec.now in
    let b = from (λ x. x.items) cs p.chunk p.index in
    let same = chunk_read (λ x. x.items) cs p.chunk c.in_ok-records.records.now c.deref.result.now c.in_ok-records.ensures.lookup.0 c.in_ok-records.ensures.lookup.1 c.deref.ensures.value in
    let found = turned_back p.found c.if-not-place.false in
    let inside : p.index < length (chunk_at (λ x. x.items) cs p.chunk) = c.place_of-place.ensures.inside found in
    let here = first_read (λ x. x.items) cs p.chunk p.index r inside (ap (λ rs. get_or rs p.index r) same ∙ sym c.in_ok-rec.ensures.lookup.1) in
    value_found (before (λ x. x.items) cs p.chunk p.index) b _ key (joined_place (λ x. x.items) cs p.chunk p.index) (subst (λ t. BeginsWith t b key) found c.place_of-place.ensures.above) r (ap (λ l. first_or l r) here.1) c.requires.rises

pub returns-clause-valid : goal.returns-clause-valid
returns-clause-valid c =
    let cs = c.args.chunks.now in
    let p = c.place_of-place.result in
    let key = key_of c.args.key in
    let r = c.in_ok-rec.rec.now in
    let b = from (λ x. x.items) cs p.chunk p.index in
    let same = chunk_read (λ x. x.items) cs p.chunk c.in_ok-records.records.now c.deref.result.now c.in_ok-records.ensures.lookup.0 c.in_ok-records.ensures.lookup.1 c.deref.ensures.value in
    let found = turned_back p.found c.if-not-place.false in
    let inside : p.index < length (chunk_at (λ x. x.items) cs p.chunk) = c.place_of-place.ensures.inside found in
    let here = first_read (λ x. x.items) cs p.chunk p.index r inside (ap (λ rs. get_or rs p.index r) same ∙ sym c.in_ok-rec.ensures.lookup.1) in
    valid_found (before (λ x. x.items) cs p.chunk p.index) b _ key (joined_place (λ x. x.items) cs p.chunk p.index) (subst (λ t. BeginsWith t b key) found c.place_of-place.ensures.above) r (ap (λ l. first_or l r) here.1) c.requires.valid
