-- The parts of a pair-key device's tag.
use Rattle.std.proofs.Common.{◌≡◌, ℕ, zero, suc, ◌*◌, ◌<◌, ◌≤◌, Bool, true, false, cond, ◌&&◌, ltb, List, [], ◌∷◌, ◌++◌, map, length, get_or, take, drop, replicate, sym, refl, ap, ◌∙◌, subst, ⊎_elim, append-nil, add-one, arith, lt-ltb}
use Rattle.std.proofs.lemmas.Bool.{cases_lt}
use Rattle.std.proofs.lemmas.List.{take_more, take_all, take-append-le, drop_at, drop-append-le, get_or-map, length-append, length-drop}
use Rattle.std.proofs.lemmas.Grind.{flat_map-append}
use Rattle.std.specs.List.{flat_map}
use Rattle.hash.specs.Digest.{sha256, resumed}
use Rattle.hash.specs.Hmac.{hmac, kept, tag_under}
use Rattle.hash.specs.declared.mac.MacKey.{MacKey}
use Rattle.hash.proofs.Tags.{tags_as_key}
use Rattle.wire.specs.Groups.{member}
use Rattle.wire.proofs.Sizes.{member_below}
use Rattle.device.specs.Keys.{same_bytes, sender_of}
use Rattle.device.specs.Pairs.{part, parts, whole_tag, part_for, shared_key, pair_tag, no_words, PassesAtPartner}
use Rattle.device.proofs.Same.{same_self}
use Rattle.device.proofs.Stamps.{may_pass_where}

-- parts that are each as they should be make the whole
pub parts_joined : (n : ℕ) (tags : ℕ → List ℕ) (ps : List (List ℕ)) (k : ℕ) → k ≤ length ps → ((r : ℕ) → r < k → get_or ps r [] ≡ part n tags r)
    → flat_map (λ p. p) (take k ps) ≡ parts n tags k
parts_joined n tags ps zero le each = refl
parts_joined n tags ps (suc k) le each =
    let more : take (suc k) ps ≡ take k ps ++ get_or ps k [] ∷ [] = ap (λ j. take j ps) (sym (add-one k)) ∙ take_more ps k [] (omega arith) in
    ap (flat_map (λ p. p)) more ∙ flat_map-append (λ p. p) (take k ps) (get_or ps k [] ∷ []) ∙ ap (λ l. l ++ (get_or ps k [] ++ [])) (parts_joined n tags ps k (omega arith) (λ r lt. each r (omega arith)))
    ∙ ap (λ p. parts n tags k ++ p) (append-nil (get_or ps k []) ∙ each k (omega arith))

-- tags have 32 bytes
pub tag_length : (key : MacKey) (text : List ℕ) → length (tag_under key text) ≡ 32
unfolding resumed
tag_length key text = refl

pub hmac_length : (key text : List ℕ) → length (hmac key text) ≡ 32
unfolding hmac sha256
hmac_length key text = refl

module _ (n : ℕ) (tags : ℕ → List ℕ) (wide : (r : ℕ) → length (tags r) ≡ 32) where
  length-part : (r : ℕ) → length (part n tags r) ≡ 32
  length-part r = elim (ltb r n) as (λ b. length (cond b (tags r) (replicate 32 0)) ≡ 32) [ true ↦ wide r | false ↦ refl ]

  length-parts : (k : ℕ) → length (parts n tags k) ≡ 32 * k
  length-parts zero = refl
  length-parts (suc k) = length-append (parts n tags k) (part n tags k) ∙ omega (arith, length-parts k, length-part k)

  -- the part that is for a replica is the one that was written for it
  part_for_parts : (k r : ℕ) → r < k → part_for r (parts n tags k) ≡ part n tags r
  part_for_parts zero r h = absurd (omega arith)
  part_for_parts (suc k) r h =
      let front = parts n tags k in
      let last = part n tags k in
      let long = length-parts k in
      ⊎_elim
      (λ lt. ap (take 32) (drop-append-le (32 * r) front last (omega arith))
      ∙ take-append-le 32 (drop (32 * r) front) last (omega (arith, length-drop (32 * r) front)) ∙ part_for_parts k r lt)
      (λ ge. let e : r ≡ k = omega arith in
      subst (λ j. part_for j (front ++ last) ≡ part n tags j) (sym e)
      (ap (take 32) (drop_at front last (32 * k) long) ∙ take_all 32 last (omega (arith, length-part k))))
      (cases_lt r k)

  -- and for a member that is its tag
  pub part_for_member : (r : ℕ) → member n r ≡ true → part_for r (whole_tag n tags) ≡ tags r
  part_for_member r m =
      let b = member_below n r m in part_for_parts 7 r (omega arith) ∙ ap (λ t. cond t (tags r) (replicate 32 0)) (lt-ltb r n b.0)

  pub length-whole : length (whole_tag n tags) ≡ 224
  length-whole = length-parts 7

pub passes_at_partner : PassesAtPartner
passes_at_partner n maker reader keys others bs mm mr long is same =
    let tags : ℕ → List ℕ = λ r. hmac (shared_key keys r) bs in
    let tag = pair_tag n keys bs in
    let may = may_pass_where n reader 224 bs tag mr long (length-whole n tags (λ r. hmac_length (shared_key keys r) bs)) (ap (member n) is ∙ mm) in
    let there : part_for reader tag ≡ hmac (shared_key others (sender_of bs)) bs =
    part_for_member n tags (λ r. hmac_length (shared_key keys r) bs) reader mr ∙ ap (λ k. hmac k bs) (same ∙ ap (shared_key others) (sym is)) in
    ap (λ b. b && same_bytes (part_for reader tag) (hmac (shared_key others (sender_of bs)) bs)) may ∙ ap (λ p. same_bytes p (hmac (shared_key others (sender_of bs)) bs)) there
    ∙ same_self (hmac (shared_key others (sender_of bs)) bs)

-- a kept key gives the tags of the key that it was made from
pub kept_is : (keys : List (List ℕ)) (bs : List ℕ) (r : ℕ) → length keys ≡ 7 → r < 7
    → tag_under (get_or (map kept keys) r (record { inner = no_words; outer = no_words })) bs ≡ hmac (shared_key keys r) bs
kept_is keys bs r h k = ap (λ m. tag_under m bs) (get_or-map kept keys r [] _ (omega arith)) ∙ tags_as_key (shared_key keys r) bs

-- tags that agree below 7 give the same whole
pub whole_same : (n : ℕ) (f g : ℕ → List ℕ) → ((r : ℕ) → r < 7 → f r ≡ g r) → whole_tag n f ≡ whole_tag n g
whole_same n f g h = upto 7 (omega arith)
  where
    one : (r : ℕ) → r < 7 → part n f r ≡ part n g r
    one r k = ap (λ t. cond (ltb r n) t (replicate 32 0)) (h r k)

    upto : (k : ℕ) → k ≤ 7 → parts n f k ≡ parts n g k
    upto zero l = refl
    upto (suc k) l = ap (λ p. p ++ part n f k) (upto k (omega arith)) ∙ ap (λ p. parts n g k ++ p) (one k (omega arith))

-- two tests that agree where the first holds
pub both_same : (a x y : Bool) → (a ≡ true → x ≡ y) → a && x ≡ a && y
both_same true x y h = h refl
both_same false x y h = refl
