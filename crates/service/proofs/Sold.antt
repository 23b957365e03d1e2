use Rattle.std.proofs.Common.{◌≡◌, ℕ, ◌+◌, ◌≤◌, max, Bool, true, false, cond, not, ◌&&◌, eqb, ltb, leb, ◌⊎◌, List, [], ◌∷◌, length, is_some, Some, None, Option, unwrap_or, sym, refl, ap, ◌∙◌, subst, inl, inr, arith}
use lib.Count.{ones-le}
use Rattle.std.proofs.lemmas.List.{get_or-replicate, get_or_past, get_or-set_same, get_or-set_other, set_past}
use Rattle.std.proofs.lemmas.Bool.{and_parts, not-true, ltb-true, eqb-true, cond_both, cases_eq, cases_lt}
use Rattle.service.specs.declared.seats.Product.{Product}
use Rattle.service.specs.Sets.{has, without}
use Rattle.service.specs.Seats.{fresh_book, no_product, product_at, out, holds, act, product, amount, well_formed, given, returned, bought_to, acted, done, seats_after}
use Rattle.service.specs.Laws.{book_after, out_at, bought_at, Gained, NeverOversold, most_bought, NeverAboveBought}
use Rattle.service.proofs.Members.{size_with, size_without}

-- what one product keeps: no seat more, or one more within the bought number, by an act that is 1
abbrev Keeps : Product → ℕ → Option Product → Type 0
Keeps p a o =
    (out (unwrap_or o p) ≤ out p) ⊎ ((out (unwrap_or o p) ≡ out p + 1) × (out (unwrap_or o p) ≤ (unwrap_or o p).bought) × (a ≡ 1) × (is_some o ≡ true))

given_keeps : (p : Product) (client n a : ℕ) → ltb client 64 ≡ true → a ≡ 1 → Keeps p a (given p client n)
given_keeps p client n a small first =
    cond_both (eqb n 0 && (not (holds p client) && ltb (out p) p.bought)) _ _ (Keeps p a)
    (λ e.
    let room = and_parts (not (holds p client)) (ltb (out p) p.bought) (and_parts (eqb n 0) _ e).1 in
    let free : has p.holders client ≡ false = ap (λ t. t && has p.holders client) (sym small) ∙ not-true (holds p client) room.0 in
    let more = size_with p.holders client free in
    inr (more, omega (arith, more, ltb-true (out p) p.bought room.1), first, refl))
    (λ e. inl (omega arith))

returned_keeps : (p : Product) (client n a : ℕ) → Keeps p a (returned p client n)
returned_keeps p client n a =
    cond_both (eqb n 0 && holds p client) (Some (record { bought = p.bought; holders = without p.holders client })) None (Keeps p a)
    (λ e. inl (omega (arith, size_without p.holders client (and_parts (ltb client 64) _ (and_parts (eqb n 0) _ e).1).1))) (λ e. inl (omega arith))

bought_keeps : (p : Product) (client n a : ℕ) → Keeps p a (bought_to p client n)
bought_keeps p client n a =
    cond_both (eqb client 0 && leb n 64) (Some (record { bought = n; holders = p.holders })) None (Keeps p a) (λ e. inl (omega arith)) (λ e. inl (omega arith))

none_keeps : (p : Product) (a : ℕ) → Keeps p a None
none_keeps p a = inl (omega arith)

acted_keeps : (p : Product) (client a n : ℕ) → ltb client 64 ≡ true → Keeps p a (acted p client a n)
acted_keeps p client a n small =
    cond_both (eqb a 1) _ _ (Keeps p a) (λ e. given_keeps p client n a small (eqb-true a 1 e))
    (λ _. cond_both (eqb a 2) _ _ (Keeps p a) (λ _. returned_keeps p client n a)
    (λ _. cond_both (eqb a 3) _ _ (Keeps p a) (λ _. bought_keeps p client n a) (λ _. none_keeps p a)))

done_keeps : (book : List Product) (client : ℕ) (command : List ℕ) → Keeps (product_at book (product command)) (act command) (done book client command)
done_keeps book client command =
    let p = product_at book (product command) in
    cond_both (ltb client 64 && well_formed command) _ _ (Keeps p (act command))
    (λ e. acted_keeps p client (act command) (amount command) (and_parts (ltb client 64) _ e).0) (λ _. none_keeps p (act command))

-- the law of one step, at any book
abbrev Sold : List Product → ℕ → List ℕ → ℕ → Type 0
Sold book client command i = (out_at (seats_after book client command) i ≤ out_at book i) ⊎ Gained book client command i

sold : (book : List Product) (client : ℕ) (command : List ℕ) (i : ℕ) → Sold book client command i
sold book client command i =
    let k = product command in
    let p = product_at book k in
    let o = done book client command in
    let q = unwrap_or o p in
    let other : product_at (seats_after book client command) i ≡ product_at book i → Sold book client command i = λ e. inl (omega (arith, ap out e)) in
    elim (cases_eq k i) [
      | inr ne ↦ other (get_or-set_other book k i q no_product (λ e. ne (sym e)))
      | inl same ↦ elim (cases_lt k (length book)) [
        | inr past ↦ other (ap (λ l. product_at l i) (set_past book k q past))
        | inl within ↦
            let new : product_at (seats_after book client command) i ≡ q = ap (product_at (seats_after book client command)) (sym same) ∙ get_or-set_same book k q no_product within in
            let old : product_at book i ≡ p = ap (product_at book) (sym same) in
            elim (done_keeps book client command) [
              | inl fewer ↦ inl (omega (arith, fewer, ap out new, ap out old))
              | inr more ↦
                  inr
                  (record {
                    one = ap out new ∙ more.0 ∙ ap (λ x. out x + 1) (sym old);
                    within = subst (λ (x : Product). out x ≤ x.bought) (sym new) more.1;
                    by_act = more.2;
                    of_product = same;
                    answered = ap (λ (b : Bool). cond b 1 0) more.3;
                  })
            ]
      ]
    ]

pub never_oversold : NeverOversold
never_oversold before client command i = sold (book_after fresh_book before) client command i

-- over whole runs, from a book whose seats out are within some number
never_above : (book : List Product) (commands : List (ℕ × List ℕ)) (i m : ℕ) → out_at book i ≤ m
    → out_at (book_after book commands) i ≤ max m (most_bought book commands i)
never_above book [] i m h = omega arith
never_above book (r ∷ rs) i m h =
    let next = seats_after book r.0 r.1 in
    elim (sold book r.0 r.1 i) [
      | inl fewer ↦ omega (arith, never_above next rs i m (omega arith))
      | inr gained ↦ omega (arith, never_above next rs i (bought_at next i) gained.within, bought_first next rs i)
    ]
  where
    bought_first : (book : List Product) (commands : List (ℕ × List ℕ)) (i : ℕ) → bought_at book i ≤ most_bought book commands i
    bought_first book [] i = omega arith
    bought_first book (r ∷ rs) i = omega arith

pub never_above_bought : NeverAboveBought
never_above_bought commands i =
    let none : out_at fresh_book i ≤ 0 =
    elim (cases_lt i 16) [
      | inl within ↦ ap_le (get_or-replicate 16 i no_product no_product within)
      | inr past ↦ ap_le (get_or_past fresh_book i no_product past)
    ]
    in
    omega (arith, never_above fresh_book commands i 0 none)
  where
    ap_le : {p : Product} → p ≡ no_product → out p ≤ 0
    ap_le e = omega (arith, ap out e, ones-le 0 0 (omega arith))
