-- The widths of leaves, and how many wires they have.
use Rattle.std.proofs.Common.{◌≡◌, ◌∙◌, sym, ap, refl, subst, ℕ, zero, suc, min, ◌+◌, ◌<◌, ◌≤◌, arith, List, [], ◌∷◌, ◌++◌, map, drop, length, get_or, append_assoc, append-nil}
use Rattle.std.proofs.lemmas.List.{drop_all}
use Rattle.chw_types.specs.declared.declarations.Data.{Data}
use Rattle.type_ports.specs.declared.ports.Leaf.{Leaf}
use Rattle.chw_types.specs.TypeTree.{TypeTree}
use Rattle.chw_layout.specs.Measured.{HasWidth}
use Rattle.type_ports.specs.Ports.{Leaves}
use Rattle.chw_terms.specs.declared.scene.Sort.TheVariants.{Circuit, Value}
use Rattle.net_built.specs.Data.{HaveWidths, HasParts, port_parts, value_part}
use Rattle.net_built.specs.Wires.{present, wire_count}
use Rattle.net_built.proofs.Parts.{leaves_once}
use Rattle.value_build.specs.ReadyParts.{IsMeasured}
use Rattle.value_build.proofs.Operands.{left_of}

abbrev pub payloads : List Leaf → List TypeTree
payloads ls = map (λ (l : Leaf). l.payload) ls

-- the widths so far, with those of the leaves that are left, are those of all
abbrev pub PayloadsSoFar : List Data → List Leaf → ℕ → List ℕ → Type 0
PayloadsSoFar datas ls i widths =
    (more : List ℕ) → HaveWidths datas (payloads (drop i ls)) more → HaveWidths datas (payloads ls) (widths ++ more)

pub payloads_grown : (datas : List Data) (ls : List Leaf) (i w : ℕ) (l : Leaf) (before later : List ℕ)
    → i < length ls → l ≡ get_or ls i l → HasWidth datas l.payload w → later ≡ before ++ w ∷ []
    → PayloadsSoFar datas ls i before → PayloadsSoFar datas ls (i + 1) later
payloads_grown datas ls i w l before later within is measured grown so more rest =
    let all : HaveWidths datas (payloads (drop i ls)) (w ∷ more) =
    subst (λ ms. HaveWidths datas (payloads ms) (w ∷ more)) (sym (left_of ls i l within is)) (measured, rest) in
    subst (HaveWidths datas (payloads ls)) (sym (append_assoc before (w ∷ []) more) ∙ ap (λ ws. ws ++ more) (sym grown)) (so (w ∷ more) all)

pub payloads_whole : (datas : List Data) (ls : List Leaf) (i : ℕ) (done : List ℕ) → length ls ≤ i
    → PayloadsSoFar datas ls i done → HaveWidths datas (payloads ls) done
payloads_whole datas ls i done l so =
    subst (HaveWidths datas (payloads ls)) (append-nil done) (so [] (subst (λ ms. HaveWidths datas (payloads ms) []) (sym (drop_all i ls l)) tt))

-- a part has one wire, where it has bits
pub wires_first : (w : ℕ) (ws : List ℕ) → wire_count (w ∷ ws) ≡ min w 1 + wire_count ws
wires_first zero ws = omega arith
wires_first (suc w) ws = omega arith

pub present_first : (w : ℕ) (ws : List ℕ) → present (w ∷ ws) ≡ present (w ∷ []) ++ present ws
present_first zero ws = refl
present_first (suc w) ws = refl

pub wires_grown : (ws : List ℕ) (i w n m all : ℕ) → i < length ws → w ≡ get_or ws i w → m ≡ n + min w 1
    → n + wire_count (drop i ws) ≡ all → m + wire_count (drop (i + 1) ws) ≡ all
wires_grown ws i w n m all l is grown so =
    let left : wire_count (drop i ws) ≡ min w 1 + wire_count (drop (i + 1) ws) =
    ap wire_count (left_of ws i w l is) ∙ wires_first w (drop (i + 1) ws) in
    omega (arith, left, grown, so)

pub wires_whole : (ws : List ℕ) (i n : ℕ) → length ws ≤ i → n + wire_count (drop i ws) ≡ wire_count ws → n ≡ wire_count ws
wires_whole ws i n l so =
    let none : wire_count (drop i ws) ≡ 0 = ap wire_count (drop_all i ws l) in
    omega (arith, none, so)

-- what has parts as a port has leaves
pub leaves_of_port : {datas : List Data} {t : TypeTree} {ws : List ℕ} → HasParts datas Circuit t ws → (ls : List Leaf) × Leaves datas t ls
leaves_of_port (port_parts {leaves = ls} leaves have) = (ls, leaves)

-- the payloads of its leaves have widths
pub payloads_have : {datas : List Data} {t : TypeTree} {ws : List ℕ} {ls : List Leaf} → Leaves datas t ls → HasParts datas Circuit t ws → HaveWidths datas (payloads ls) ws
payloads_have {datas} {ws = ws} leaves (port_parts others have) = subst (λ ms. HaveWidths datas (payloads ms) ws) (leaves_once others leaves) have

pub payload_at : {datas : List Data} (ls : List Leaf) (i : ℕ) (l : Leaf) (ws : List ℕ) → HaveWidths datas (payloads ls) ws → i < length ls → l ≡ get_or ls i l → IsMeasured datas l.payload
payload_at [] i l ws have within is = absurd (omega (arith, within))
payload_at (m ∷ ls) i l [] have within is = absurd have
payload_at {datas} (m ∷ ls) zero l (w ∷ ws) have within is = (w, subst (λ (k : Leaf). HasWidth datas k.payload w) (sym is) have.0)
payload_at (m ∷ ls) (suc i) l (w ∷ ws) have within is = payload_at ls i l ws have.1 (omega (arith, within)) is

-- a value with parts has a width
pub value_measured : {datas : List Data} {t : TypeTree} {ws : List ℕ} → HasParts datas Value t ws → IsMeasured datas t
value_measured (value_part {w = w} wide) = (w, wide)
