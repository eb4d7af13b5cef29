-- The ports of a last module that stands in a text are those of the net.
use Rattle.std.proofs.Common.{◌≡◌, ℕ, suc, ◌+◌, true, false, eqb, ◌&&◌, List, [], ◌∷◌, ◌++◌, length, map, take, drop, Option, Some, refl, ap, ◌∙◌, subst, append_assoc, arith}
use Rattle.std.specs.Prelude.{codes, is_some}
use Rattle.std.specs.Option.{unwrap_or}
use Rattle.std.specs.List.{AllByRecursion, position_or_len}
use Rattle.std.proofs.lemmas.Bool.{and_from, false≢true, ne_eqb}
use Rattle.std.proofs.lemmas.Option.{slice_get-get_or}
use Rattle.chw_base.specs.Names.{AllOf, IsUpper, is_capital, is_letter_or_digit}
use Rattle.chw_clock.specs.declared.event.Port.{Port as NetPort}
use Rattle.name_tables.specs.Names.{AreDistinct, is_among, place_of}
use Rattle.net_rules.specs.PortsHold.{FitsPort}
use Rattle.verilog_text.specs.Names.{domain_name}
use Rattle.verilog_text.specs.Declared.{width_of}
use Rattle.verilog_text.specs.Source.{Line as LineItem}
use Rattle.verilog_text.proofs.OnePorts.{upper_at}
use Rattle.verilog_text.proofs.Places.{place_at}
use Rattle.verilog_tree.specs.Sources.{line_of}
use Rattle.verilog_tree.specs.declared.word.Line.{Line}
use Rattle.verilog_rules.specs.Declarations.{domain_part, line_name, name_part, port_of}
use Rattle.verilog_rules.specs.NameRules.{is_port_name}
use Rattle.verilog_rules.specs.Texts.{before_line, begins_with, behind_line, is_lower_word}
use Rattle.verilog_rules.proofs.SignalsBack.{lower_back}

-- no byte is `_`
abbrev NoLine : List ℕ → Type 0
NoLine bs = AllByRecursion (λ (b : ℕ). eqb b 95 ≡ false) bs

letters_no_line : (bs : List ℕ) → AllOf is_letter_or_digit bs → NoLine bs
letters_no_line [] all = tt
letters_no_line (b ∷ bs) all =
    (ne_eqb b 95 (λ same. false≢true (subst (λ (x : ℕ). is_letter_or_digit x ≡ true) same all.0)), letters_no_line bs all.1)

upper_no_line : (bs : List ℕ) → IsUpper bs → NoLine bs
upper_no_line [] upper = absurd upper
upper_no_line (b ∷ bs) upper =
    (ne_eqb b 95 (λ same. false≢true (subst (λ (x : ℕ). is_capital x ≡ true) same upper.0)), letters_no_line bs upper.1)

line_at : (bs rest : List ℕ) → NoLine bs → position_or_len (λ (b : ℕ). eqb b 95) (bs ++ 95 ∷ rest) ≡ length bs
line_at [] rest none = refl
line_at (b ∷ bs) rest none =
    let more : position_or_len (λ (b : ℕ). eqb b 95) (bs ++ 95 ∷ rest) ≡ length bs = line_at bs rest none.1 in
    rw none.0 (rw more (omega arith))

take_all : (xs ys : List ℕ) → take (length xs) (xs ++ ys) ≡ xs
take_all [] ys = refl
take_all (x ∷ xs) ys = ap (λ (rest : List ℕ). x ∷ rest) (take_all xs ys)

drop_all : (xs : List ℕ) (y : ℕ) (ys : List ℕ) → drop (suc (length xs)) (xs ++ y ∷ ys) ≡ ys
drop_all [] y ys = refl
drop_all (x ∷ xs) y ys = drop_all xs y ys

parts_back : (bs rest : List ℕ) → NoLine bs → (before_line (bs ++ 95 ∷ rest) ≡ bs) × (behind_line (bs ++ 95 ∷ rest) ≡ rest)
parts_back bs rest none =
    let at : position_or_len (λ (b : ℕ). eqb b 95) (bs ++ 95 ∷ rest) ≡ length bs = line_at bs rest none in
    let next : length bs + 1 ≡ suc (length bs) = omega arith in (
      ap (λ (n : ℕ). take n (bs ++ 95 ∷ rest)) at ∙ take_all bs (95 ∷ rest),
      ap (λ (n : ℕ). drop (n + 1) (bs ++ 95 ∷ rest)) at ∙ ap (λ (n : ℕ). drop n (bs ++ 95 ∷ rest)) next ∙ drop_all bs 95 rest,
    )

-- a port of the net, by a line of the last module
record PortWas (domains : List (List ℕ)) (front : List ℕ) (l : Line) (p : NetPort) : Type 0 where
  pub form : is_port_name domains front (line_name l) ≡ true
  pub port_is : port_of domains l ≡ p

same_port : (x y : NetPort) → x.name ≡ y.name → x.dom.number ≡ y.dom.number → x.width ≡ y.width → x ≡ y
same_port x y p q r = λ i. record { name = p i; dom = record { number = q i }; width = r i }

port_was : (domains : List (List ℕ)) (a b : ℕ) (l : Line) (p : NetPort) → ((rest : List ℕ) → begins_with (a ∷ b ∷ []) (a ∷ b ∷ rest) ≡ true)
    → AllByRecursion IsUpper domains → AreDistinct domains → FitsPort (length domains) p
    → line_name l ≡ (((a ∷ b ∷ []) ++ domain_name domains p.dom) ++ codes "_") ++ p.name → width_of (line_of l).range ≡ p.width → PortWas domains (a ∷ b ∷ []) l p
port_was domains a b l p begins uppers distinct fits name_is width_is =
    let dn : List ℕ = domain_name domains p.dom in
    let whole : line_name l ≡ a ∷ b ∷ (dn ++ (95 ∷ p.name)) = name_is ∙ append_assoc (a ∷ b ∷ dn) (codes "_") p.name in
    let upper : IsUpper dn = upper_at domains p.dom.number uppers fits.0 in
    let parts = parts_back dn p.name (upper_no_line dn upper) in
    let domain_is : domain_part (line_name l) ≡ dn = ap domain_part whole ∙ parts.0 in
    let own_is : name_part (line_name l) ≡ p.name = ap name_part whole ∙ parts.1 in
    let placed : place_of domains dn ≡ Some p.dom.number = place_at domains p.dom.number dn distinct (slice_get-get_or domains p.dom.number [] fits.0) in
    let placed_part : place_of domains (domain_part (line_name l)) ≡ Some p.dom.number = ap (place_of domains) domain_is ∙ placed in
    let lower : is_lower_word (name_part (line_name l)) ≡ true = ap is_lower_word own_is ∙ lower_back p.name fits.1 in
    record {
      form = and_from (begins_with (a ∷ b ∷ []) (line_name l)) (is_among domains (domain_part (line_name l)) && is_lower_word (name_part (line_name l)))
          (ap (begins_with (a ∷ b ∷ [])) whole ∙ begins (dn ++ (95 ∷ p.name)))
          (and_from (is_among domains (domain_part (line_name l))) (is_lower_word (name_part (line_name l))) (ap is_some placed_part) lower);
      port_is = same_port (port_of domains l) p own_is (ap (λ (o : Option ℕ). unwrap_or o 0) placed_part) width_is;
    }

first_text : {x y : List ℕ} {xs ys : List (List ℕ)} → x ∷ xs ≡ y ∷ ys → x ≡ y
first_text is = cc

later_texts : {x y : List ℕ} {xs ys : List (List ℕ)} → x ∷ xs ≡ y ∷ ys → xs ≡ ys
later_texts is = cc

first_width : {x y : ℕ} {xs ys : List ℕ} → x ∷ xs ≡ y ∷ ys → x ≡ y
first_width is = cc

later_widths : {x y : ℕ} {xs ys : List ℕ} → x ∷ xs ≡ y ∷ ys → xs ≡ ys
later_widths is = cc

abbrev full_port : List (List ℕ) → (a b : ℕ) → NetPort → List ℕ
full_port domains a b p = (((a ∷ b ∷ []) ++ domain_name domains p.dom) ++ codes "_") ++ p.name

-- the ports of the net, by the lines of the last module
pub record PortsWere (domains : List (List ℕ)) (front : List ℕ) (ls : List Line) (ps : List NetPort) : Type 0 where
  pub forms : AllByRecursion (λ (l : Line). is_port_name domains front (line_name l) ≡ true) ls
  pub ports_are : map (port_of domains) ls ≡ ps

pub ports_were : (domains : List (List ℕ)) (a b : ℕ) (ls : List Line) (ps : List NetPort) → ((rest : List ℕ) → begins_with (a ∷ b ∷ []) (a ∷ b ∷ rest) ≡ true)
    → AllByRecursion IsUpper domains → AreDistinct domains → AllByRecursion (FitsPort (length domains)) ps
    → map (λ (l : LineItem). l.name) (map line_of ls) ≡ map (full_port domains a b) ps
    → map (λ (l : LineItem). width_of l.range) (map line_of ls) ≡ map (λ (p : NetPort). p.width) ps → PortsWere domains (a ∷ b ∷ []) ls ps
ports_were domains a b [] [] begins uppers distinct fits names widths = record { forms = tt; ports_are = refl }
ports_were domains a b [] (p ∷ ps) begins uppers distinct fits names widths = absurd (cc)
ports_were domains a b (l ∷ ls) [] begins uppers distinct fits names widths = absurd (cc)
ports_were domains a b (l ∷ ls) (p ∷ ps) begins uppers distinct fits names widths =
    let first : PortWas domains (a ∷ b ∷ []) l p = port_was domains a b l p begins uppers distinct fits.0 (first_text names) (first_width widths) in
    let rest : PortsWere domains (a ∷ b ∷ []) ls ps = ports_were domains a b ls ps begins uppers distinct fits.1 (later_texts names) (later_widths widths) in
    record { forms = (first.form, rest.forms); ports_are = λ i. first.port_is i ∷ rest.ports_are i }
