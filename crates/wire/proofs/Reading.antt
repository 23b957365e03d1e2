-- Reading what was written gives the message.
use Rattle.std.proofs.Common.{◌≡◌, ℕ, ◌^◌, ◌<◌, true, ltb, List, [], ◌∷◌, ◌++◌, length, take, drop, replicate, Some, None, Ok, refl, ap, ◌∙◌, arith, length-append, ltb-true}
use Rattle.std.specs.List.{flat_map}
use Rattle.std.proofs.lemmas.List.{take_at, drop_at}
use Rattle.wire.specs.Forms.{unnamed_fault, body_fault, named_end, body_at}
use Rattle.wire.specs.Groups.{member}
use Rattle.wire.specs.Laws.{FitsVouch, FitsDigest, FitsRequest, FitsBody, Unused, WrittenIsRead}
use Rattle.wire.specs.Messages.{request_bytes, digest_bytes, vouch_bytes, pair_bytes, bytes_of, request_at, digest_at, vouch_at, pair_at}
use Rattle.wire.specs.declared.message.Body.{Body}
use Rattle.wire.specs.declared.message.Body.TheVariants.{Prepare, Commit, Checkpoint, ViewChange, NewView}
use Rattle.wire.specs.declared.message.Digest.{Digest}
use Rattle.wire.specs.declared.message.Message.{Message}
use Rattle.wire.specs.declared.message.Pair.{Pair}
use Rattle.wire.specs.declared.message.Request.{Request}
use Rattle.wire.specs.declared.message.Vouch.{Vouch}
use Rattle.wire.proofs.Accepted.{accepted_read, field_good, zeros_good}
use Rattle.wire.proofs.Sizes.{by_size, sized}
use Rattle.wire.proofs.Numbers.{number_read}

-- what is shown of each kind
pub record Reads (n : ℕ) (m : Message) : Type 0 where
  pub long : length (bytes_of m) ≡ 48
  pub kind : body_at (bytes_of m) ≡ Some m.body
  pub rest : unnamed_fault (named_end n m.body) (drop (named_end n m.body) (bytes_of m)) ≡ None

-- the numbers of a vouch, a digest, a request and a pair, read back
vouch_read : (u : Vouch) → FitsVouch u → vouch_at (vouch_bytes u) 0 ≡ u
vouch_read u f =
    let v = number_read 4 u.view f.0 in
    let k = number_read 4 u.length f.1 in
    λ i. record { view = v i; length = k i }

pub digest_read : (d : Digest) → FitsDigest d → digest_at (digest_bytes d) 0 ≡ d
digest_read d f =
    let a = number_read 8 d.first f.0 in
    let b = number_read 8 d.second f.1 in
    let c = number_read 8 d.third f.2 in
    let e = number_read 8 d.fourth f.3 in
    λ i. record { first = a i; second = b i; third = c i; fourth = e i }

-- a request's command stands between what comes before and after it
pub request_read : (x : Request) (rest : List ℕ) → x.client < 64 → FitsRequest x → request_at (request_bytes x ++ rest) 0 ≡ x
request_read x rest c f =
    let client = number_read 2 x.client (omega arith) in
    let number = number_read 4 x.number f.0 in
    let command : take 10 (x.command ++ rest) ≡ x.command = take_at x.command rest 10 f.1 in
    λ i. record { client = client i; number = number i; command = command i }

pair_read : (p : Pair) → p.count < 2 ^ 32 → pair_at (pair_bytes p) 0 ≡ p
pair_read p h =
    let count = number_read 4 p.count h in λ i. record { replica = p.replica; count = count i }

-- pairs that are not used leave no byte
unused_zero : (n s c view : ℕ) (p q r t : Pair) → member n s ≡ true → let b = NewView view (p ∷ (q ∷ (r ∷ (t ∷ [])))) in
    Unused n b → unnamed_fault (named_end n b) (drop (named_end n b) (bytes_of (record { sender = s; count = c; body = b }))) ≡ None
unused_zero n s c view p q r t g =
    let b = NewView view (p ∷ (q ∷ (r ∷ (t ∷ [])))) in
    let P : ℕ → Type 0 = λ k. Unused k b → unnamed_fault (named_end k b) (drop (named_end k b) (bytes_of (record { sender = s; count = c; body = b }))) ≡ None in
    by_size P n (sized n s g)
    (λ u. ap (λ l. unnamed_fault 22 (flat_map pair_bytes l ++ replicate 16 0)) u ∙ zeros_good 26 22)
    (λ u. ap (λ l. unnamed_fault 27 (flat_map pair_bytes l ++ replicate 16 0)) u ∙ zeros_good 21 27)
    (λ u. zeros_good 16 32)

reads : (n s c : ℕ) (b : Body) → member n s ≡ true → body_fault n b ≡ None → FitsBody b → Unused n b → Reads n (record { sender = s; count = c; body = b })
reads n s c (Prepare view x) g e f u =
    let v = number_read 4 view f.0 in
    let good = ltb-true x.client 64 (field_good 12 (ltb x.client 64) _ e).0 in
    let r = request_read x (replicate 20 0) good f.1 in
    record {
      long = omega (arith, length-append x.command (replicate 20 0), f.1.1);
      kind = λ i. Some (Prepare (v i) (r i));
      rest = ap (unnamed_fault 28) (drop_at x.command (replicate 20 0) 10 f.1.1) ∙ zeros_good 20 28;
    }
reads n s c (Commit vouch) g e f u = record { long = refl; kind = ap (λ v. Some (Commit v)) (vouch_read vouch f); rest = zeros_good 32 16 }
reads n s c (Checkpoint k) g e f u =
    let p = number_read 4 k.position f.0 in
    let d = digest_read k.digest f.1 in
    record { long = refl; kind = λ i. Some (Checkpoint (record { position = p i; digest = d i })); rest = zeros_good 4 44 }
reads n s c (ViewChange view vouch) g e f u =
    let v = number_read 4 view f.0 in
    let w = vouch_read vouch f.1 in
    record { long = refl; kind = λ i. Some (ViewChange (v i) (w i)); rest = zeros_good 28 20 }
reads n s c (NewView view (p ∷ (q ∷ (r ∷ (t ∷ []))))) g e f u =
    let v = number_read 4 view f.0 in
    let h = f.1.1 in
    let a = pair_read p (h 0) in
    let b = pair_read q (h 1) in
    let d = pair_read r (h 2) in
    let k = pair_read t (h 3) in
    record { long = refl; kind = λ i. Some (NewView (v i) (a i ∷ (b i ∷ (d i ∷ (k i ∷ []))))); rest = unused_zero n s c view p q r t g u }
reads n s c (NewView view []) g e f u = absurd (omega (arith, f.1.0))
reads n s c (NewView view (p ∷ [])) g e f u = absurd (omega (arith, f.1.0))
reads n s c (NewView view (p ∷ (q ∷ []))) g e f u = absurd (omega (arith, f.1.0))
reads n s c (NewView view (p ∷ (q ∷ (r ∷ [])))) g e f u = absurd (omega (arith, f.1.0))
reads n s c (NewView view (p ∷ (q ∷ (r ∷ (t ∷ (z ∷ ps)))))) g e f u = absurd (omega (arith, f.1.0))

pub written_is_read : WrittenIsRead
written_is_read n m r =
    let k = reads n m.sender m.count m.body r.sender r.fields r.fits_body r.unused in
    let count = number_read 4 m.count r.fits in
    accepted_read n (bytes_of m) m.body
    (record {
      long = k.long;
      kind = k.kind;
      sender = r.sender;
      two = refl;
      three = refl;
      counted = omega (arith, count, r.counted);
      fields = r.fields;
      rest = k.rest;
    })
    ∙ (λ i. Ok (record { sender = m.sender; count = count i; body = m.body }))
