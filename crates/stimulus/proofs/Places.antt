-- Ports with their parts, one after the other.
use Rattle.std.proofs.Common.{◌≡◌, ℕ, ◌+◌, ◌<◌, List, ◌∷◌, length, get_or, drop, sym, ap, ◌∙◌, subst, arith}
use Rattle.std.specs.Borrow.{Bor}
use Rattle.std.specs.List.{AllByRecursion}
use Rattle.std.proofs.lemmas.List.{drop_more}
use Rattle.chw_base.specs.Outcome.{OfFault}
use Rattle.chw_base.specs.declared.outcome.Or.{Or}
use Rattle.chw_base.specs.declared.outcome.Or.TheVariants.{Memory, Fault}
use Rattle.chw_bits.specs.Hex.{IsFaultOf}
use Rattle.chw_bits.specs.declared.read_hex.HexFault.{HexFault}
use Rattle.chw_bits.specs.declared.read_hex.HexFault.TheVariants.{NotHex, Width}
use Rattle.chw_clock.specs.declared.event.Port.{Port}
use Rattle.stimulus.specs.Stimulus.{AreWide}
use Rattle.stimulus.specs.Texts.{behind, texts}
use Rattle.stimulus.specs.Words.{HasDigits}
use Rattle.stimulus.proofs.Lists.{all_text_at}

-- what holds of the ports and parts that are left speaks of the first of them
pub front : (R : List Port → List (List ℕ) → Type 0) (ports : List Port) (parts : List (Bor (List ℕ))) (i : ℕ) (port : Port) (d : Bor (List ℕ))
    → i < length ports → length parts ≡ length ports → port ≡ get_or ports i port
    → R (drop i ports) (texts (drop i parts)) → R (port ∷ drop (i + 1) ports) ((get_or parts i d).now ∷ texts (drop (i + 1) parts))
front R ports parts i port d within same is h =
    let one = drop_more ports i port within ∙ ap (λ p. p ∷ drop (i + 1) ports) (sym is) in
    let other = drop_more parts i d (omega arith) in
    subst (λ (qs : List (Bor (List ℕ))). R (port ∷ drop (i + 1) ports) (texts qs)) other (subst (λ (ps : List Port). R ps (texts (drop i parts))) one h)

pub back : (R : List Port → List (List ℕ) → Type 0) (ports : List Port) (parts : List (Bor (List ℕ))) (i : ℕ) (port : Port) (d : Bor (List ℕ))
    → i < length ports → length parts ≡ length ports → port ≡ get_or ports i port
    → R (port ∷ drop (i + 1) ports) ((get_or parts i d).now ∷ texts (drop (i + 1) parts)) → R (drop i ports) (texts (drop i parts))
back R ports parts i port d within same is h =
    let one = drop_more ports i port within ∙ ap (λ p. p ∷ drop (i + 1) ports) (sym is) in
    let other = drop_more parts i d (omega arith) in
    subst (λ (ps : List Port). R ps (texts (drop i parts))) (sym one) (subst (λ (qs : List (Bor (List ℕ))). R (port ∷ drop (i + 1) ports) (texts qs)) (sym other) h)

-- a part whose digits aren't taken
pub part_fault : (ports : List Port) (parts : List (Bor (List ℕ))) (i : ℕ) (port : Port) (d : Bor (List ℕ)) (digits : List ℕ) (e : Or HexFault)
    → i < length ports → length parts ≡ length ports → port ≡ get_or ports i port → digits ≡ behind 61 (get_or parts i d).now
    → (AreWide ports (texts parts) → AreWide (drop i ports) (texts (drop i parts))) → OfFault e (IsFaultOf port.width digits)
    → OfFault e (λ _. AllByRecursion HasDigits (texts parts) → AreWide ports (texts parts) → ⊥)
part_fault ports parts i port d digits Memory within same is cut left f = tt
part_fault ports parts i port d digits (Fault NotHex) within same is cut left f =
    λ all wide. (subst (λ (t : List ℕ). IsFaultOf port.width t NotHex) cut f) (all_text_at HasDigits parts i d (omega arith) all)
part_fault ports parts i port d digits (Fault Width) within same is cut left f =
    λ all wide. (subst (λ (t : List ℕ). IsFaultOf port.width t Width) cut f).1 (front AreWide ports parts i port d within same is (left wide)).0
