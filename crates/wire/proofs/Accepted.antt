-- What it takes that a record is read.
use Rattle.std.proofs.Common.{◌≡◌, ℕ, zero, suc, ◌+◌, ◌<◌, Bool, true, false, cond, eqb, ltb, List, [], ◌∷◌, length, get_or, drop, replicate, Some, None, Ok, Err, Option, Result, sym, refl, ap, ◌∙◌, ltb-true, lt-ltb, eq-eqb, eqb-true}
use Rattle.hash.specs.Bytes.{number_at}
use Rattle.wire.specs.Forms.{field, or_else, unnamed_fault, body_fault, named_end, body_at, message_at, record_fault, unless_fault, judged, parse}
use Rattle.wire.specs.Groups.{member}
use Rattle.wire.specs.declared.message.Body.{Body}
use Rattle.wire.specs.declared.message.Message.{Message}
use Rattle.wire.specs.declared.refusal.Refusal.{Refusal}

pub record Accepted (n : ℕ) (bs : List ℕ) (b : Body) : Type 0 where
  pub long : length bs ≡ 48
  pub kind : body_at bs ≡ Some b
  pub sender : member n (get_or bs 1 0) ≡ true
  pub two : get_or bs 2 0 ≡ 0
  pub three : get_or bs 3 0 ≡ 0
  pub counted : 0 < number_at 4 bs 4
  pub fields : body_fault n b ≡ None
  pub rest : unnamed_fault (named_end n b) (drop (named_end n b) bs) ≡ None

-- a field without fault is good, and so is what follows it
pub field_good : (place : ℕ) (good : Bool) (after : Option ℕ) → field place good after ≡ None → (good ≡ true) × (after ≡ None)
field_good place true after h = (refl, h)
field_good place false after h = absurd cc

or_else_good : (a b : Option ℕ) → or_else a b ≡ None → (a ≡ None) × (b ≡ None)
or_else_good None b h = (refl, h)
or_else_good (Some p) b h = absurd cc

pub unless_good : {X : Type 0} (fault : Option ℕ) (x y : X) → unless_fault fault x ≡ Ok y → (fault ≡ None) × (x ≡ y)
unless_good None x y h = (refl, cc)
unless_good (Some p) x y h = absurd cc

pub cond_good : {X : Type 0} (b : Bool) (r : Result X Refusal) (e : Refusal) (x : X) → cond b r (Err e) ≡ Ok x → (b ≡ true) × (r ≡ Ok x)
cond_good true r e x h = (refl, h)
cond_good false r e x h = absurd cc

-- a fault refuses alike, whatever is given where there is none
pub fault_kept : {X : Type 0} (fault : Option ℕ) (x : X) (e : Refusal) → unless_fault {X = Unit {0}} fault tt ≡ Err e → unless_fault fault x ≡ Err e
fault_kept None x e h = absurd cc
fault_kept (Some p) x e h = cc

pub fault_none : {X : Type 0} (fault : Option ℕ) (x : X) → unless_fault {X = Unit {0}} fault tt ≡ Ok tt → unless_fault fault x ≡ Ok x
fault_none None x h = refl
fault_none (Some p) x h = absurd cc

-- a record of the right length and a kind that there is goes by its fields
pub judged_by : (n : ℕ) (bs cs : List ℕ) (m : Message) → cs ≡ bs → length cs ≡ 48 → Some m.body ≡ body_at cs → m ≡ message_at cs m.body
    → parse n bs ≡ unless_fault (record_fault n cs m) m
judged_by n bs cs m same long kind is =
    ap (parse n) (sym same) ∙ rw (eq-eqb (length cs) 48 long, sym kind) (ap (λ y. unless_fault (record_fault n cs y) y) (sym is))

-- a record that is read was accepted
judged_good : (n : ℕ) (bs : List ℕ) (m : Message) (o : Option Body) → length bs ≡ 48 → body_at bs ≡ o → judged n bs o ≡ Ok m → (b : Body) × Accepted n bs b × (message_at bs b ≡ m)
judged_good n bs m None long kind h = absurd cc
judged_good n bs m (Some b) long kind h =
    let u = unless_good (record_fault n bs (message_at bs b)) (message_at bs b) m h in
    let one = field_good 1 (member n (get_or bs 1 0)) _ u.0 in
    let two = field_good 2 (eqb (get_or bs 2 0) 0) _ one.1 in
    let three = field_good 3 (eqb (get_or bs 3 0) 0) _ two.1 in
    let four = field_good 4 (ltb 0 (number_at 4 bs 4)) _ three.1 in
    let rest = or_else_good (body_fault n b) _ four.1 in (
      b,
      record {
        long = long;
        kind = kind;
        sender = one.0;
        two = eqb-true _ _ two.0;
        three = eqb-true _ _ three.0;
        counted = ltb-true _ _ four.0;
        fields = rest.0;
        rest = rest.1;
      },
      u.1,
    )

pub read_accepted : (n : ℕ) (bs : List ℕ) (m : Message) → parse n bs ≡ Ok m → (b : Body) × Accepted n bs b × (message_at bs b ≡ m)
read_accepted n bs m h =
    let c = cond_good (eqb (length bs) 48) (judged n bs (body_at bs)) _ m h in judged_good n bs m (body_at bs) (eqb-true _ _ c.0) refl c.1

field_is : (place : ℕ) (good : Bool) (after : Option ℕ) → good ≡ true → field place good after ≡ after
field_is place good after h = ap (λ b. field place b after) h

-- and a record that is accepted is read
pub accepted_read : (n : ℕ) (bs : List ℕ) (b : Body) → Accepted n bs b → parse n bs ≡ Ok (message_at bs b)
accepted_read n bs b a =
    let rest = unnamed_fault (named_end n b) (drop (named_end n b) bs) in
    let good : record_fault n bs (message_at bs b) ≡ None =
    field_is 1 (member n (get_or bs 1 0)) _ a.sender ∙ field_is 2 _ _ (eq-eqb (get_or bs 2 0) 0 a.two) ∙ field_is 3 _ _ (eq-eqb (get_or bs 3 0) 0 a.three)
    ∙ field_is 4 _ _ (lt-ltb 0 (number_at 4 bs 4) a.counted) ∙ ap (λ o. or_else o rest) a.fields ∙ a.rest in
    rw (eq-eqb (length bs) 48 a.long, a.kind, good)

-- bytes without fault are zero, and zeros have no fault
pub zeros_are : (at : ℕ) (bs : List ℕ) → unnamed_fault at bs ≡ None → bs ≡ replicate (length bs) 0
zeros_are at [] h = refl
zeros_are at (b ∷ bs) h =
    let f = field_good at (eqb b 0) (unnamed_fault (at + 1) bs) h in
    let z : b ≡ 0 = eqb-true b 0 f.0 in
    let r : bs ≡ replicate (length bs) 0 = zeros_are (at + 1) bs f.1 in
    cc

pub zeros_good : (n at : ℕ) → unnamed_fault at (replicate n 0) ≡ None
zeros_good zero at = refl
zeros_good (suc n) at = zeros_good n (at + 1)
