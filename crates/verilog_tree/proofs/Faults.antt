-- Tokens stop to be a text at one place, and only where they have no tree.
use Rattle.std.proofs.Common.{◌≡◌, ℕ, ◌⊎◌, inl, inr, List, [], ◌∷◌, ◌++◌, sym, ap, ◌∙◌, subst, append_assoc}
use Rattle.std.proofs.lemmas.List.{append-nil, map-append}
use Rattle.verilog_text.specs.Grammar.{IsSource}
use Rattle.verilog_text.specs.Source.{Source}
use Rattle.verilog_text.specs.VForms.{Token}
use Rattle.verilog_text.specs.VTokens.{Placed}
use Rattle.verilog_tree.specs.Syntax.{BeginsSource, IsSyntaxFault, tokens_of}
use Rattle.verilog_tree.specs.Syntax.IsSyntaxFault.{early, wrong}

-- a front of what begins a text begins it too
front_begins : (front more : List Placed) → BeginsSource (front ++ more) → BeginsSource front
front_begins front more begins =
    let split : tokens_of (front ++ more) ++ begins.1 ≡ tokens_of front ++ (tokens_of more ++ begins.1) =
    ap (λ (l : List Token). l ++ begins.1) (map-append (λ (t : Placed). t.token) front more)
    ∙ append_assoc (tokens_of front) (tokens_of more) begins.1 in
    (begins.0, tokens_of more ++ begins.1, begins.2 ∙ split)

-- so does a front with the element behind it
front_of : (before : List Placed) (t : Placed) (after tokens : List Placed) → tokens ≡ before ++ t ∷ after → BeginsSource tokens → BeginsSource (before ++ t ∷ [])
front_of before t after tokens split begins =
    front_begins (before ++ t ∷ []) after (subst BeginsSource (split ∙ sym (append_assoc before (t ∷ []) after)) begins)

-- one list split twice before an element: alike, or one front has the other and its element
abbrev Splits : {A : Type 0} → List A → A → List A → A → Type 0
Splits {A} a x b y =
    (x ≡ y) ⊎ (((e : List A) × (b ≡ (a ++ x ∷ []) ++ e)) ⊎ ((e : List A) × (a ≡ (b ++ y ∷ []) ++ e)))

splits : {A : Type 0} (a b c d : List A) (x y : A) → a ++ x ∷ c ≡ b ++ y ∷ d → Splits a x b y
splits [] [] c d x y same = inl cc
splits [] (z ∷ b) c d x y same =
    let first : z ≡ x = cc in
    inr (inl (b, λ i. first i ∷ b))
splits (z ∷ a) [] c d x y same =
    let first : z ≡ y = cc in
    inr (inr (a, λ i. first i ∷ a))
splits (z ∷ a) (w ∷ b) c d x y same =
    let first : z ≡ w = cc in
    let back : w ≡ z = cc in
    let rest : a ++ x ∷ c ≡ b ++ y ∷ d = cc in
    elim (splits a b c d x y rest) [
      | inl equal ↦ inl equal
      | inr (inl longer) ↦ inr (inl (longer.0, λ i. back i ∷ longer.1 i))
      | inr (inr longer) ↦ inr (inr (longer.0, λ i. first i ∷ longer.1 i))
    ]

pub one_fault : (length : ℕ) (tokens : List Placed) (a b : ℕ) → IsSyntaxFault length tokens a → IsSyntaxFault length tokens b → a ≡ b
one_fault length tokens a b (wrong before t after split begins stops at) (wrong front u rest split2 begins2 stops2 at2) =
    elim (splits before front after rest t u (sym split ∙ split2)) [
      | inl equal ↦ at ∙ ap (λ (p : Placed). p.at) equal ∙ sym at2
      | inr (inl longer) ↦ absurd (stops (front_begins (before ++ t ∷ []) longer.0 (subst BeginsSource longer.1 begins2)))
      | inr (inr longer) ↦ absurd (stops2 (front_begins (front ++ u ∷ []) longer.0 (subst BeginsSource longer.1 begins)))
    ]
one_fault length tokens a b (wrong before t after split begins stops at) (early all none at2) = absurd (stops (front_of before t after tokens split all))
one_fault length tokens a b (early all none at) (wrong before t after split begins stops at2) = absurd (stops (front_of before t after tokens split all))
one_fault length tokens a b (early all none at) (early all2 none2 at2) = at ∙ sym at2

pub no_fault : (length : ℕ) (tokens : List Placed) (source : Source) (at : ℕ) → IsSource tokens source → IsSyntaxFault length tokens at → ⊥
no_fault length tokens source at is (wrong before t after split begins stops place) =
    stops (front_of before t after tokens split (source, [], sym is ∙ sym (append-nil (tokens_of tokens))))
no_fault length tokens source at is (early begins none place) = none source is
