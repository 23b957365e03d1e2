use Rattle.std.proofs.Common.{◌≡◌, ℕ, zero, suc, ◌+◌, ◌<◌, ◌≤◌, List, ◌∷◌, map, length, get_or, drop, sym, ap, ◌∙◌, subst, add-one, arith}
use Rattle.std.proofs.Math.Seq.{drop-cons}
use Rattle.std.proofs.lemmas.List.{drop_all}
use Rattle.std.specs.Array.{MapsFrom, IsMapOf, IsFromFnResultFrom, IsFromFnResult}
use Rattle.std.specs.Fn.{Called}
use denote.Param.Members.{Mut}

-- a map over an array by a closure whose calls leave it as it is
module _ {F A B : Type 0} (g : Mut F (A × Unit {0}) B) (v : A → B) (f : F) (call : (x : A) (y : B) (q : F) → Called g f (x, tt) y q → (y ≡ v x) × (q ≡ f)) where
  maps_rest : (xs : List A) (ys : List B) (i n : ℕ) → length xs ≡ i + n → length ys ≡ i + n → MapsFrom g f xs ys i n → drop i ys ≡ map v (drop i xs)
  maps_rest xs ys i zero lx ly m = drop_all i ys (omega arith) ∙ sym (ap (map v) (drop_all i xs (omega arith)))
  maps_rest xs ys i (suc n) lx ly (q, x, y, ex, ey, k, rest) =
      let e = call x y q k in
      let next : MapsFrom g f xs ys (i + 1) n = subst (λ (p : F). MapsFrom g p xs ys (i + 1) n) e.1 rest in
      let tail : drop (suc i) ys ≡ map v (drop (suc i) xs) = ap (λ j. drop j ys) (sym (add-one i)) ∙ maps_rest xs ys (i + 1) n (omega arith) (omega arith) next ∙ ap (λ j. map v (drop j xs)) (add-one i) in
      drop-cons ys i y (omega arith) ∙ ap (λ t. t ∷ drop (suc i) ys) (ey.0 ∙ e.0) ∙ ap (λ l. v x ∷ l) tail
      ∙ sym (ap (map v) (drop-cons xs i x (omega arith) ∙ ap (λ t. t ∷ drop (suc i) xs) ex.0))

  pub map-same : (xs : List A) (ys : List B) (n : ℕ) → length xs ≡ n → IsMapOf g f xs ys n → ys ≡ map v xs
  map-same xs ys n long m = maps_rest xs ys 0 n (omega arith) (omega (arith, m.long)) m.each

-- an array made by such a closure
module _ {F B : Type 0} (g : Mut F (ℕ × Unit {0}) B) (v : ℕ → B) (f : F) (m : ℕ) (call : (i : ℕ) (y : B) (q : F) → i < m → Called g f (i, tt) y q → (y ≡ v i) × (q ≡ f)) where
  from_rest : (ys : List B) (i n : ℕ) → i + n ≤ m → IsFromFnResultFrom g f ys i n → (k : ℕ) (d : B) → k < n → get_or ys (i + k) d ≡ v (i + k)
  from_rest ys i zero le r k d lt = absurd (omega arith)
  from_rest ys i (suc n) le (q, y, at, c, rest) zero d lt =
      let here : i ≡ i + 0 = omega arith in
      ap (λ j. get_or ys j d) (sym here) ∙ at.1 d ∙ (call i y q (omega arith) c).0 ∙ ap v here
  from_rest ys i (suc n) le (q, y, at, c, rest) (suc k) d lt =
      let next : IsFromFnResultFrom g f ys (i + 1) n = subst (λ (p : F). IsFromFnResultFrom g p ys (i + 1) n) (call i y q (omega arith) c).1 rest in
      let there : i + suc k ≡ (i + 1) + k = omega arith in
      ap (λ j. get_or ys j d) there ∙ from_rest ys (i + 1) n (omega arith) next k d (omega arith) ∙ ap v (sym there)

  pub get_or-from : (ys : List B) → IsFromFnResult g f ys m → (i : ℕ) (d : B) → i < m → get_or ys i d ≡ v i
  get_or-from ys r i d lt =
      let here : 0 + i ≡ i = omega arith in
      ap (λ j. get_or ys j d) (sym here) ∙ from_rest ys 0 m (omega arith) r.each i d lt ∙ ap v here
