-- What a stamped record says.
use Rattle.std.proofs.Common.{◌≡◌, ℕ, ◌+◌, ◌-◌, ◌*◌, ◌<◌, ◌≤◌, Bool, true, false, ◌&&◌, eqb, List, ◌++◌, length, get_or, take, drop, set, refl, ap, ◌∙◌, ⊎_elim, arith, eq-eqb}
use borrow.Author.Tests.{clash}
use Rattle.std.proofs.lemmas.List.{get_or_append_left, get_or-append_right, get_or-take, get_or-drop, get_or-set_same, get_or-set_other, length-take-le, length-set, length-drop, length-append}
use Rattle.hash.specs.Bytes.{big_endian, number_at}
use Rattle.wire.specs.Groups.{member}
use Rattle.wire.proofs.Numbers.{number_read}
use Rattle.wire.proofs.Sizes.{member_below}
use Rattle.device.specs.Keys.{sender_of, may_pass, StampNames}
use Rattle.device.specs.Makes.{stamped}

pub stamped_length : (bs : List ℕ) (o c : ℕ) → length bs ≡ 48 → length (stamped bs o c) ≡ 48
stamped_length bs o c h =
    simp (length-append, length-drop, length-set, length-take-le 4 (set bs 1 o) (omega (arith, length-set bs 1 o))) (omega arith)

pub stamped_sender : (bs : List ℕ) (o c : ℕ) → length bs ≡ 48 → sender_of (stamped bs o c) ≡ o
stamped_sender bs o c h =
    let long : length (set bs 1 o) ≡ 48 = length-set bs 1 o ∙ h in
    get_or_append_left (take 4 (set bs 1 o)) _ 0 1 (omega (arith, length-take-le 4 (set bs 1 o) (omega arith)))
    ∙ get_or-take 4 (set bs 1 o) 1 0 (omega arith) ∙ get_or-set_same bs 1 o 0 (omega arith)

-- a pair of the right lengths may pass between members
pub may_pass_where : (n o width : ℕ) (bs tag : List ℕ) → member n o ≡ true → length bs ≡ 48 → length tag ≡ width → member n (sender_of bs) ≡ true → may_pass n o width bs tag ≡ true
may_pass_where n o width bs tag m h k s =
    ap (λ b. b && (eqb (length bs) 48 && (eqb (length tag) width && member n (sender_of bs)))) m ∙ ap (λ b. b && (eqb (length tag) width && member n (sender_of bs))) (eq-eqb (length bs) 48 h)
    ∙ ap (λ b. b && member n (sender_of bs)) (eq-eqb (length tag) width k) ∙ s

-- where a pair may pass, its sender is one of at most seven
pub sender_below : (n o width : ℕ) (bs tag : List ℕ) → may_pass n o width bs tag ≡ true → sender_of bs < 7
sender_below n o width bs tag h =
    let m = last (member n o) (eqb (length bs) 48) (eqb (length tag) width) (member n (sender_of bs)) h in
    let b = member_below n (sender_of bs) m in
    omega arith
  where
    last : (p q r s : Bool) → p && (q && (r && s)) ≡ true → s ≡ true
    last true true true s e = e
    last true true false s e = absurd (clash e)
    last true false r s e = absurd (clash e)
    last false q r s e = absurd (clash e)

-- the front of a stamped record, its count, and what follows
pub stamp_names : StampNames
stamp_names bs o c h small =
    let x = set bs 1 o in
    let front = take 4 x in
    let digits = big_endian 4 c in
    let long : length x ≡ 48 = length-set bs 1 o ∙ h in
    let four : length front ≡ 4 = length-take-le 4 x (omega arith) in
    let digit : (k : ℕ) → get_or (stamped bs o c) (4 + k) 0 ≡ get_or (digits ++ drop 8 x) (4 + k - 4) 0 =
    λ k. get_or-append_right front (digits ++ drop 8 x) 4 (4 + k) 0 four (omega arith) in
    let a = digit 0 in
    let b = digit 1 in
    let d = digit 2 in
    let e = digit 3 in
    let count : number_at 4 (stamped bs o c) 4 ≡ c = (λ i. (((0 * 256 + a i) * 256 + b i) * 256 + d i) * 256 + e i) ∙ number_read 4 c small in
    let before : (i : ℕ) → (i ≡ 1 → ⊥) → i < 4 → get_or (stamped bs o c) i 0 ≡ get_or bs i 0 =
    λ i ne lt. get_or_append_left front (digits ++ drop 8 x) 0 i (omega arith) ∙ get_or-take 4 x i 0 lt ∙ get_or-set_other bs 1 i o 0 ne in
    let after : (i : ℕ) → (i ≡ 1 → ⊥) → 8 ≤ i → get_or (stamped bs o c) i 0 ≡ get_or bs i 0 =
    λ i ne ge. get_or-append_right front (digits ++ drop 8 x) 4 i 0 four (omega arith) ∙ get_or-append_right digits (drop 8 x) 4 (i - 4) 0 refl (omega arith)
    ∙ get_or-drop 8 x (i - 4 - 4) 0 ∙ ap (λ k. get_or x k 0) (omega arith) ∙ get_or-set_other bs 1 i o 0 ne in
    (stamped_length bs o c h, stamped_sender bs o c h, count, λ i ne w. ⊎_elim (before i ne) (after i ne) w)
