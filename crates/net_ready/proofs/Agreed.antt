-- What is known and what is found agree where stages are low.
use Rattle.std.proofs.Common.{◌≡◌, ℕ, zero, suc, ◌+◌, ◌<◌, arith, List, [], ◌∷◌, ◌++◌, length, refl, sym, ap, ◌∙◌, subst, append_assoc, length-append}
use Rattle.std.specs.Prelude.{slice_index_or}
use Rattle.chw_base.specs.declared.index.WireId.{WireId}
use Rattle.net_ready.specs.Drafts.{Known, known_at}
use Rattle.net_ready.proofs.Settled.{at_seam}
use Rattle.net_ready.proofs.Stages.{Stages, AllBelow}

-- the wires of the binding of this number
abbrev pub wires_in : List (List WireId) → ℕ → List WireId
wires_in wires i = slice_index_or wires i []

-- from this letrec on two have the same wires for the bindings whose stage is below j
abbrev pub KnownAgree : ℕ → Stages → ℕ → Known → Known → Type 0
KnownAgree j [] at a c = Unit {0}
KnownAgree j (s ∷ ss) at a c =
    ((i : ℕ) → i < s.0 → s.1 i < j → wires_in (known_at a at) i ≡ wires_in (known_at c at) i) × KnownAgree j ss (suc at) a c

-- two lists have wires for all bindings, and the same ones for those whose stage is below j
abbrev pub FoundAgree : ℕ → Stages → Known → Known → Type 0
FoundAgree j [] [] [] = Unit {0}
FoundAgree j (s ∷ ss) (x ∷ f) (y ∷ h) =
    ((length x ≡ s.0) × (length y ≡ s.0) × ((i : ℕ) → i < s.0 → s.1 i < j → wires_in x i ≡ wires_in y i)) × FoundAgree j ss f h
FoundAgree j _ _ _ = ⊥

pub none_agree : (ss : Stages) (at : ℕ) (a c : Known) → KnownAgree 0 ss at a c
none_agree [] at a c = tt
none_agree (s ∷ ss) at a c = (λ i l m. absurd (omega (arith, m)), none_agree ss (suc at) a c)

pub front_agrees : (j : ℕ) (ss ts : Stages) (at : ℕ) (a c : Known) → KnownAgree j (ss ++ ts) at a c → KnownAgree j ss at a c
front_agrees j [] ts at a c h = tt
front_agrees j (s ∷ ss) ts at a c h = (h.0, front_agrees j ss ts (suc at) a c h.1)

pub back_agrees : (j : ℕ) (ss ts : Stages) (at : ℕ) (a c : Known) → KnownAgree j (ss ++ ts) at a c → KnownAgree j ts (at + length ss) a c
back_agrees j [] ts at a c h = let e : at ≡ at + 0 = omega arith in subst (λ k. KnownAgree j ts k a c) e h
back_agrees j (s ∷ ss) ts at a c h =
    let e : suc at + length ss ≡ at + suc (length ss) = omega arith in
    subst (λ k. KnownAgree j ts k a c) e (back_agrees j ss ts (suc at) a c h.1)

pub found_append : (j : ℕ) (ss ts : Stages) (f h g k : Known) → FoundAgree j ss f h → FoundAgree j ts g k → FoundAgree j (ss ++ ts) (f ++ g) (h ++ k)
found_append j [] ts [] [] g k p q = q
found_append j [] ts [] (y ∷ h) g k p q = absurd p
found_append j [] ts (x ∷ f) [] g k p q = absurd p
found_append j [] ts (x ∷ f) (y ∷ h) g k p q = absurd p
found_append j (s ∷ ss) ts [] [] g k p q = absurd p
found_append j (s ∷ ss) ts [] (y ∷ h) g k p q = absurd p
found_append j (s ∷ ss) ts (x ∷ f) [] g k p q = absurd p
found_append j (s ∷ ss) ts (x ∷ f) (y ∷ h) g k p q = (p.0, found_append j ss ts f h g k p.1 q)

pub found_counts : (j : ℕ) (ss : Stages) (f h : Known) → FoundAgree j ss f h → (length f ≡ length ss) × (length h ≡ length ss)
found_counts j [] [] [] p = (refl, refl)
found_counts j [] [] (y ∷ h) p = absurd p
found_counts j [] (x ∷ f) [] p = absurd p
found_counts j [] (x ∷ f) (y ∷ h) p = absurd p
found_counts j (s ∷ ss) [] [] p = absurd p
found_counts j (s ∷ ss) [] (y ∷ h) p = absurd p
found_counts j (s ∷ ss) (x ∷ f) [] p = absurd p
found_counts j (s ∷ ss) (x ∷ f) (y ∷ h) p = let rest = found_counts j ss f h p.1 in (ap suc rest.0, ap suc rest.1)

-- what was found is known from there on
found_known : (j : ℕ) (ss : Stages) (f h pre qre : Known) → length pre ≡ length qre → FoundAgree j ss f h → KnownAgree j ss (length pre) (pre ++ f) (qre ++ h)
found_known j [] f h pre qre e p = tt
found_known j (s ∷ ss) [] [] pre qre e p = absurd p
found_known j (s ∷ ss) [] (y ∷ h) pre qre e p = absurd p
found_known j (s ∷ ss) (x ∷ f) [] pre qre e p = absurd p
found_known j (s ∷ ss) (x ∷ f) (y ∷ h) pre qre e p =
    let other : known_at (qre ++ y ∷ h) (length pre) ≡ y = ap (λ k. known_at (qre ++ y ∷ h) k) e ∙ at_seam qre y h in
    let size : length (pre ++ x ∷ []) ≡ suc (length pre) = omega (arith, length-append pre (x ∷ [])) in
    let counts : length (pre ++ x ∷ []) ≡ length (qre ++ y ∷ []) = omega (arith, length-append pre (x ∷ []), length-append qre (y ∷ []), e) in
    let rest = found_known j ss f h (pre ++ x ∷ []) (qre ++ y ∷ []) counts p.1 in
    let left = subst (λ known. KnownAgree j ss (length (pre ++ x ∷ [])) known ((qre ++ y ∷ []) ++ h)) (append_assoc pre (x ∷ []) f) rest in
    let right = subst (λ known. KnownAgree j ss (length (pre ++ x ∷ [])) (pre ++ x ∷ f) known) (append_assoc qre (y ∷ []) h) left in (
      λ i l m. ap (λ ws. wires_in ws i) (at_seam pre x f) ∙ p.0.2 i l m ∙ sym (ap (λ ws. wires_in ws i) other),
      subst (λ k. KnownAgree j ss k (pre ++ x ∷ f) (qre ++ y ∷ h)) size right,
    )

pub then_known : (j : ℕ) (ss : Stages) (f h : Known) → FoundAgree j ss f h → KnownAgree j ss 0 f h
then_known j ss f h p = found_known j ss f h [] [] refl p

same_wires : (x y : List (List WireId)) (n : ℕ) → length x ≡ n → length y ≡ n → ((i : ℕ) → i < n → wires_in x i ≡ wires_in y i) → x ≡ y
same_wires [] [] n e f h = refl
same_wires [] (v ∷ y) n e f h = absurd (omega (arith, e, f))
same_wires (w ∷ x) [] n e f h = absurd (omega (arith, e, f))
same_wires (w ∷ x) (v ∷ y) zero e f h = absurd (omega (arith, e))
same_wires (w ∷ x) (v ∷ y) (suc n) e f h =
    let first : w ≡ v = h 0 (omega arith) in
    let rest = same_wires x y n (omega (arith, e)) (omega (arith, f)) (λ i l. h (suc i) (omega (arith, l))) in
    λ i. first i ∷ rest i

-- where all stages are below j, what agrees is the same
pub same_found : (j : ℕ) (ss : Stages) (f h : Known) → AllBelow j ss → FoundAgree j ss f h → f ≡ h
same_found j [] [] [] low p = refl
same_found j [] [] (y ∷ h) low p = absurd p
same_found j [] (x ∷ f) [] low p = absurd p
same_found j [] (x ∷ f) (y ∷ h) low p = absurd p
same_found j (s ∷ ss) [] [] low p = absurd p
same_found j (s ∷ ss) [] (y ∷ h) low p = absurd p
same_found j (s ∷ ss) (x ∷ f) [] low p = absurd p
same_found j (s ∷ ss) (x ∷ f) (y ∷ h) low p =
    let first = same_wires x y s.0 p.0.0 p.0.1 (λ i l. p.0.2 i l (low.0 i l)) in
    let rest = same_found j ss f h low.1 p.1 in
    λ i. first i ∷ rest i
