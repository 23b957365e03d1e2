-- A record that is read, and its message written, gives the same bytes.
use Rattle.std.proofs.Common.{◌≡◌, ℕ, zero, suc, ◌+◌, ◌-◌, ◌*◌, ◌^◌, ◌<◌, ◌≤◌, Bool, true, false, cond, eqb, List, [], ◌∷◌, ◌++◌, length, get_or, take, drop, replicate, Some, None, sym, refl, ap, ◌∙◌, subst, ⊎_elim, arith, lit<, eqb-true}
use Rattle.std.specs.List.{flat_map}
use Rattle.std.proofs.lemmas.Bool.{cases_lt}
use Rattle.std.proofs.lemmas.List.{get_or_past, get_or-take, length-take, drop_more, drop-drop, get_or-drop, length-drop, take-append-drop, length-take-le}
use Rattle.hash.specs.Bytes.{big_endian, number_at}
use Rattle.wire.specs.Forms.{unnamed_fault, named_end, message_at}
use Rattle.wire.specs.Groups.{is_size, quorum_of}
use Rattle.wire.specs.Laws.{Bytes, no_pair, RightForm, FitsRequest, FitsBody, Unused, ReadIsWritten}
use Rattle.wire.specs.Messages.{kind_of, request_bytes, digest_bytes, vouch_bytes, pair_bytes, body_bytes, bytes_of, request_at, digest_at, vouch_at, pair_at}
use Rattle.wire.specs.declared.message.Body.{Body}
use Rattle.wire.specs.declared.message.Body.TheVariants.{Prepare, Commit, Checkpoint, ViewChange, NewView}
use Rattle.wire.specs.declared.message.Pair.{Pair}
use Rattle.wire.proofs.Accepted.{Accepted, read_accepted, zeros_are}
use Rattle.wire.proofs.Numbers.{number_back, number_below}
use Rattle.wire.proofs.Sizes.{by_size, sized}

-- the bytes of each part that stands at a place are those that stand there
module _ (bs : List ℕ) (fit : Bytes bs) where
  number_there : (w at end : ℕ) → at + w ≡ end → end ≤ length bs → big_endian w (number_at w bs at) ++ drop end bs ≡ drop at bs
  number_there w at end e h = ap (λ k. big_endian w (number_at w bs at) ++ drop k bs) (sym e) ∙ number_back w bs at fit (omega arith)

  pub request_there : (at end : ℕ) → at + 16 ≡ end → end ≤ length bs → request_bytes (request_at bs at) ++ drop end bs ≡ drop at bs
  request_there at end e h =
      let command : take 10 (drop (at + 6) bs) ++ drop end bs ≡ drop (at + 6) bs =
      ap (λ l. take 10 (drop (at + 6) bs) ++ l) (ap (λ k. drop k bs) (omega arith) ∙ sym (drop-drop 10 (at + 6) bs)) ∙ take-append-drop 10 (drop (at + 6) bs) in
      ap (λ l. big_endian 2 (number_at 2 bs at) ++ (big_endian 4 (number_at 4 bs (at + 2)) ++ l)) command
      ∙ ap (λ l. big_endian 2 (number_at 2 bs at) ++ l) (number_there 4 (at + 2) (at + 6) (omega arith) (omega arith))
      ∙ number_there 2 at (at + 2) refl (omega arith)

  -- and it fits
  pub request_fits : (at end : ℕ) → at + 16 ≡ end → end ≤ length bs → FitsRequest (request_at bs at)
  request_fits at end e h = (
    number_below 4 bs (at + 2) fit,
    length-take-le 10 (drop (at + 6) bs) (omega (arith, length-drop (at + 6) bs)),
    λ i. ⊎_elim
        (λ lt. let same = get_or-take 10 (drop (at + 6) bs) i 0 lt ∙ get_or-drop (at + 6) bs i 0 in omega (arith, same, fit (at + 6 + i)))
        (λ ge. let none = get_or_past (take 10 (drop (at + 6) bs)) i 0 (omega (arith, length-take 10 (drop (at + 6) bs))) in omega (arith, none))
        (cases_lt i 10),
  )

  vouch_there : (at end : ℕ) → at + 8 ≡ end → end ≤ length bs → vouch_bytes (vouch_at bs at) ++ drop end bs ≡ drop at bs
  vouch_there at end e h =
      ap (λ l. big_endian 4 (number_at 4 bs at) ++ l) (number_there 4 (at + 4) end (omega arith) h) ∙ number_there 4 at (at + 4) refl (omega arith)

  pub digest_there : (at end : ℕ) → at + 32 ≡ end → end ≤ length bs → digest_bytes (digest_at bs at) ++ drop end bs ≡ drop at bs
  digest_there at end e h =
      let a = big_endian 8 (number_at 8 bs at) in
      let b = big_endian 8 (number_at 8 bs (at + 8)) in
      let c = big_endian 8 (number_at 8 bs (at + 16)) in
      ap (λ l. a ++ (b ++ (c ++ l))) (number_there 8 (at + 24) end (omega arith) h)
      ∙ ap (λ l. a ++ (b ++ l)) (number_there 8 (at + 16) (at + 24) (omega arith) (omega arith))
      ∙ ap (λ l. a ++ l) (number_there 8 (at + 8) (at + 16) (omega arith) (omega arith))
      ∙ number_there 8 at (at + 8) refl (omega arith)

  pair_there : (at end : ℕ) → at + 5 ≡ end → end ≤ length bs → pair_bytes (pair_at bs at) ++ drop end bs ≡ drop at bs
  pair_there at end e h =
      ap (λ l. get_or bs at 0 ∷ l) (number_there 4 (at + 1) end (omega arith) h) ∙ sym (drop_more bs at 0 (omega arith))

  -- the bytes from a place on are zero where none is at fault
  rest_there : (from k : ℕ) → from + k ≡ length bs → unnamed_fault from (drop from bs) ≡ None → drop from bs ≡ replicate k 0
  rest_there from k e h = zeros_are from (drop from bs) h ∙ ap (λ j. replicate j 0) (length-drop from bs ∙ omega arith)

all_zero : (n j : ℕ) → get_or {A = ℕ} (replicate n 0) j 0 ≡ 0
all_zero zero j = refl
all_zero (suc n) zero = refl
all_zero (suc n) (suc j) = all_zero n j

-- where only zeros stand, a pair is none
zero_past : (bs : List ℕ) (from k i : ℕ) → drop from bs ≡ replicate k 0 → from ≤ i → get_or bs i 0 ≡ 0
zero_past bs from k i e h =
    let at : from + (i - from) ≡ i = omega arith in
    ap (λ j. get_or bs j 0) (sym at) ∙ sym (get_or-drop from bs (i - from) 0) ∙ ap (λ l. get_or l (i - from) 0) e ∙ all_zero k (i - from)

pair_none : (bs : List ℕ) (from k at : ℕ) → drop from bs ≡ replicate k 0 → from ≤ at → pair_at bs at ≡ no_pair
pair_none bs from k at e h =
    let z : (i : ℕ) → at ≤ i → get_or bs i 0 ≡ 0 = λ i g. zero_past bs from k i e (omega arith) in
    let replica = z at (omega arith) in
    let count : number_at 4 bs (at + 1) ≡ 0 =
    omega (arith, z (at + 1 + 0) (omega arith), z (at + 1 + 1) (omega arith), z (at + 1 + 2) (omega arith), z (at + 1 + 3) (omega arith)) in
    λ i. record { replica = replica i; count = count i }

-- what is shown of each kind
record Writes (n : ℕ) (bs : List ℕ) (b : Body) : Type 0 where
  kind : kind_of b ≡ get_or bs 0 0
  bytes : body_bytes b ≡ drop 8 bs
  fits : FitsBody b
  unused : Unused n b

module _ (n : ℕ) (bs : List ℕ) (fit : Bytes bs) (long : length bs ≡ 48) where
  below32 : (at : ℕ) → number_at 4 bs at < 2 ^ 32
  below32 at = number_below 4 bs at fit

  below64 : (at : ℕ) → number_at 8 bs at < 2 ^ 64
  below64 at = number_below 8 bs at fit

  abbrev Rest : Body → Type 0
  Rest b = unnamed_fault (named_end n b) (drop (named_end n b) bs) ≡ None

  -- a view, the other fields, which stand there, and zeros
  after_view : (fields : List ℕ) (end k : ℕ) → fields ++ drop end bs ≡ drop 12 bs → drop end bs ≡ replicate k 0
      → big_endian 4 (number_at 4 bs 8) ++ (fields ++ replicate k 0) ≡ drop 8 bs
  after_view fields end k there zeros =
      ap (λ l. big_endian 4 (number_at 4 bs 8) ++ (fields ++ l)) (sym zeros) ∙ ap (λ l. big_endian 4 (number_at 4 bs 8) ++ l) there
      ∙ number_there bs fit 4 8 12 refl (omega arith)

  prepare_writes : let b = Prepare (number_at 4 bs 8) (request_at bs 12) in get_or bs 0 0 ≡ 1 → Rest b → Writes n bs b
  prepare_writes k rest =
      record {
        kind = sym k;
        bytes = after_view (request_bytes (request_at bs 12)) 28 20 (request_there bs fit 12 28 refl (omega arith)) (rest_there bs fit 28 20 (omega arith) rest);
        fits = (below32 8, request_fits bs fit 12 28 refl (omega arith));
        unused = tt;
      }

  commit_writes : let b = Commit (vouch_at bs 8) in get_or bs 0 0 ≡ 2 → Rest b → Writes n bs b
  commit_writes k rest =
      record {
        kind = sym k;
        bytes = ap (λ l. vouch_bytes (vouch_at bs 8) ++ l) (sym (rest_there bs fit 16 32 (omega arith) rest)) ∙ vouch_there bs fit 8 16 refl (omega arith);
        fits = (below32 8, below32 12);
        unused = tt;
      }

  checkpoint_writes : let b = Checkpoint (record { position = number_at 4 bs 8; digest = digest_at bs 12 }) in get_or bs 0 0 ≡ 3 → Rest b → Writes n bs b
  checkpoint_writes k rest =
      record {
        kind = sym k;
        bytes = after_view (digest_bytes (digest_at bs 12)) 44 4 (digest_there bs fit 12 44 refl (omega arith)) (rest_there bs fit 44 4 (omega arith) rest);
        fits = (below32 8, (below64 12, below64 20, below64 28, below64 36));
        unused = tt;
      }

  view_change_writes : let b = ViewChange (number_at 4 bs 8) (vouch_at bs 12) in get_or bs 0 0 ≡ 4 → Rest b → Writes n bs b
  view_change_writes k rest =
      record {
        kind = sym k;
        bytes = after_view (vouch_bytes (vouch_at bs 12)) 20 28 (vouch_there bs fit 12 20 refl (omega arith)) (rest_there bs fit 20 28 (omega arith) rest);
        fits = (below32 8, (below32 12, below32 16));
        unused = tt;
      }

  abbrev four_pairs : List Pair
  four_pairs = pair_at bs 12 ∷ (pair_at bs 17 ∷ (pair_at bs 22 ∷ (pair_at bs 27 ∷ [])))

  -- past the pairs that a group of the size uses there are zeros, so the pairs there are none
  abbrev Spare : ℕ → Type 0
  Spare k = unnamed_fault (12 + 5 * quorum_of k) (drop (12 + 5 * quorum_of k) bs) ≡ None
      → (drop 32 bs ≡ replicate 16 0) × (drop (quorum_of k) four_pairs ≡ replicate (4 - quorum_of k) no_pair)

  spare : is_size n ≡ true → Spare n
  spare good =
      by_size Spare n good
      (λ rest. let zeros = rest_there bs fit 22 26 (omega arith) rest in
      let c = pair_none bs 22 26 22 zeros (omega arith) in
      let d = pair_none bs 22 26 27 zeros (omega arith) in
      (sym (drop-drop 10 22 bs) ∙ ap (drop 10) zeros, λ i. c i ∷ (d i ∷ [])))
      (λ rest. let zeros = rest_there bs fit 27 21 (omega arith) rest in
      let d = pair_none bs 27 21 27 zeros (omega arith) in
      (sym (drop-drop 5 27 bs) ∙ ap (drop 5) zeros, λ i. d i ∷ []))
      (λ rest. (rest_there bs fit 32 16 (omega arith) rest, refl))

  fits_pairs : (i : ℕ) → (get_or four_pairs i no_pair).count < 2 ^ 32
  fits_pairs zero = below32 13
  fits_pairs (suc zero) = below32 18
  fits_pairs (suc (suc zero)) = below32 23
  fits_pairs (suc (suc (suc zero))) = below32 28
  fits_pairs (suc (suc (suc (suc i)))) = lit< tt

  pairs_there : flat_map pair_bytes four_pairs ++ drop 32 bs ≡ drop 12 bs
  pairs_there =
      let p = pair_bytes (pair_at bs 12) in
      let q = pair_bytes (pair_at bs 17) in
      let r = pair_bytes (pair_at bs 22) in
      ap (λ l. p ++ (q ++ (r ++ l))) (pair_there bs fit 27 32 refl (omega arith)) ∙ ap (λ l. p ++ (q ++ l)) (pair_there bs fit 22 27 refl (omega arith))
      ∙ ap (λ l. p ++ l) (pair_there bs fit 17 22 refl (omega arith)) ∙ pair_there bs fit 12 17 refl (omega arith)

  new_view_writes : let b = NewView (number_at 4 bs 8) four_pairs in is_size n ≡ true → get_or bs 0 0 ≡ 5 → Rest b → Writes n bs b
  new_view_writes good k rest =
      let s = spare good rest in
      record { kind = sym k; bytes = after_view (flat_map pair_bytes four_pairs) 32 16 pairs_there s.0; fits = (below32 8, (refl, fits_pairs)); unused = s.1 }

-- the kind that a record is read as
by_kind : (a b c d e : Bool) (v w x y z : Body) (body : Body) {X : Type 0}
    → cond a (Some v) (cond b (Some w) (cond c (Some x) (cond d (Some y) (cond e (Some z) None)))) ≡ Some body
    → (a ≡ true → v ≡ body → X) → (b ≡ true → w ≡ body → X) → (c ≡ true → x ≡ body → X) → (d ≡ true → y ≡ body → X) → (e ≡ true → z ≡ body → X) → X
by_kind true b c d e v w x y z body h p q r s t = p refl cc
by_kind false true c d e v w x y z body h p q r s t = q refl cc
by_kind false false true d e v w x y z body h p q r s t = r refl cc
by_kind false false false true e v w x y z body h p q r s t = s refl cc
by_kind false false false false true v w x y z body h p q r s t = t refl cc
by_kind false false false false false v w x y z body h p q r s t = absurd cc

writes : (n : ℕ) (bs : List ℕ) (b : Body) → Bytes bs → Accepted n bs b → Writes n bs b
writes n bs b fit a =
    let good = sized n (get_or bs 1 0) a.sender in
    let P : Body → Type 0 = λ c. unnamed_fault (named_end n c) (drop (named_end n c) bs) ≡ None → Writes n bs c in
    let k : ℕ → Bool = λ i. eqb (get_or bs 0 0) i in
    by_kind (k 1) (k 2) (k 3) (k 4) (k 5) _ _ _ _ _ b a.kind
    (λ t e. subst P e (prepare_writes n bs fit a.long (eqb-true _ _ t)))
    (λ t e. subst P e (commit_writes n bs fit a.long (eqb-true _ _ t)))
    (λ t e. subst P e (checkpoint_writes n bs fit a.long (eqb-true _ _ t)))
    (λ t e. subst P e (view_change_writes n bs fit a.long (eqb-true _ _ t)))
    (λ t e. subst P e (new_view_writes n bs fit a.long good (eqb-true _ _ t)))
    a.rest

-- a message's bytes are those of the record that it was read from
same_bytes : (n : ℕ) (bs : List ℕ) (b : Body) → Bytes bs → Accepted n bs b → Writes n bs b → bytes_of (message_at bs b) ≡ bs
same_bytes n bs b fit a w =
    let long = a.long in
    let count = big_endian 4 (number_at 4 bs 4) in
    ap (λ l. kind_of b ∷ (get_or bs 1 0 ∷ (0 ∷ (0 ∷ (count ++ l))))) w.bytes ∙ ap (λ l. kind_of b ∷ (get_or bs 1 0 ∷ (0 ∷ (0 ∷ l)))) (number_there bs fit 4 4 8 refl (omega arith))
    ∙ (λ i. w.kind i ∷ (get_or bs 1 0 ∷ (sym a.two i ∷ (sym a.three i ∷ drop 4 bs))))
    ∙ ap (λ l. get_or bs 0 0 ∷ (get_or bs 1 0 ∷ (get_or bs 2 0 ∷ l))) (sym (drop_more bs 3 0 (omega arith)))
    ∙ ap (λ l. get_or bs 0 0 ∷ (get_or bs 1 0 ∷ l)) (sym (drop_more bs 2 0 (omega arith))) ∙ ap (λ l. get_or bs 0 0 ∷ l) (sym (drop_more bs 1 0 (omega arith)))
    ∙ sym (drop_more bs 0 0 (omega arith))

pub read_is_written : ReadIsWritten
read_is_written n bs m fit h =
    let r = read_accepted n bs m h in
    let b = r.0 in
    let a = r.1 in
    let w = writes n bs b fit a in
    let form : RightForm n (message_at bs b) = record { sender = a.sender; counted = a.counted; fields = a.fields; unused = w.unused; fits = number_below 4 bs 4 fit; fits_body = w.fits } in
    subst (λ k. (bytes_of k ≡ bs) × RightForm n k) r.2 (same_bytes n bs b fit a w, form)
