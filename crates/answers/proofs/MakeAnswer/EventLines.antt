-- The line of an event is right, and stands for the event.
use Rattle.std.proofs.Common.{◌≡◌, ℕ, ◌<◌, ◌≤◌, Bool, true, false, List, [], ◌∷◌, ◌++◌, length, refl, sym, ap, ap₂, subst, ◌∙◌, arith}
use Rattle.std.specs.Prelude.{IsTrue, codes, if◌then◌else◌}
use Rattle.std.specs.List.{AllByRecursion, position_or_len}
use Rattle.std.proofs.lemmas.Bool.{false≢true, le-ltb, lt-ltb, ne_eqb}
use Rattle.chw_base.specs.declared.index.DomId.{DomId}
use Rattle.chw_clock.specs.declared.event.Port.{Port}
use Rattle.chw_clock.specs.declared.event.Ports.{Ports}
use Rattle.stimulus.specs.Stimulus.{AreWide, HaveForm, HaveNames, IsApart, IsPart, IsRight, body_of, count_of, domains_of, event_from, event_of, parts_of}
use Rattle.stimulus.specs.Texts.{behind, has, is, split_at}
use Rattle.stimulus.proofs.Splits.{split_last}
use Rattle.answers.specs.MakeAnswer.Events.{HasX, domain}
use Rattle.answers.proofs.MakeAnswer.Digits.{FourDigits}

-- the byte isn't in the text
abbrev pub Lacks : ℕ → List ℕ → Type 0
Lacks byte text = AllByRecursion (λ b. is byte b ≡ false) text

behind_all : (byte : ℕ) (text : List ℕ) → Lacks byte text → position_or_len (is byte) text ≡ length text
behind_all byte [] lacks = refl
behind_all byte (b ∷ text) lacks =
    rw lacks.0 (let rest = behind_all byte text lacks.1 in omega (arith, rest))

pub has_none : (byte : ℕ) (text : List ℕ) → Lacks byte text → has byte text ≡ false
has_none byte text lacks =
    let all = behind_all byte text lacks in
    le-ltb (position_or_len (is byte) text) (length text) (omega (arith, all))

-- a digit is no sign
pub no_sign : (byte d : ℕ) → byte < 48 → 48 ≤ d → is byte d ≡ false
no_sign byte d low high = ne_eqb d byte (λ same. omega (arith, same))

-- a line without a count
module _ (ports : Ports) (line : List ℕ) (domains parts : List (List ℕ)) where
  pub record Reads : Type 0 where
    pub alone : has 42 line ≡ false
    pub colon : IsTrue (has 58 line)
    pub apart : IsApart (behind 58 line)
    pub domains_are : domains_of line ≡ domains
    pub parts_are : parts_of line ≡ parts
    pub form : HaveForm (length ports.inputs) domains parts
    pub names : HaveNames ports domains parts
    pub widths : AreWide ports.inputs parts

  body_is : has 42 line ≡ false → body_of line ≡ line
  body_is alone = rw alone refl

  pub once : Reads → count_of line ≡ 1
  once r = rw r.alone refl

  pub is_right : Reads → IsRight ports line
  is_right r =
      let body = sym (body_is r.alone) in
      let ds : domains_of (body_of line) ≡ domains = ap domains_of (body_is r.alone) ∙ r.domains_are in
      let ps : parts_of (body_of line) ≡ parts = ap parts_of (body_is r.alone) ∙ r.parts_are in (
        (
          (λ counted. absurd (false≢true (sym r.alone ∙ counted))),
          record {
            colon = subst (λ b. IsTrue (has 58 b)) body r.colon;
            apart = subst (λ b. IsApart (behind 58 b)) body r.apart;
            words = subst (λ d. HaveForm (length ports.inputs) d (parts_of (body_of line))) (sym ds)
                (subst (λ p. HaveForm (length ports.inputs) domains p) (sym ps) r.form);
          },
        ),
        subst (λ d. HaveNames ports d (parts_of (body_of line))) (sym ds) (subst (λ p. HaveNames ports domains p) (sym ps) r.names),
        subst (AreWide ports.inputs) (sym ps) r.widths,
      )

  pub event_is : Reads → event_of ports line ≡ event_from ports domains parts
  event_is r =
      ap₂ (λ d p. event_from ports d p) (ap domains_of (body_is r.alone) ∙ r.domains_are)
      (ap parts_of (body_is r.alone) ∙ r.parts_are)

-- ports with the domains A and B and the input `x`
abbrev pub ports_with : List DomId → DomId → List Port → Ports
ports_with resets d outputs = record {
  domains = codes "A" ∷ codes "B" ∷ [];
  resets = resets;
  inputs = record { name = codes "x"; dom = d; width = 16 } ∷ [];
  outputs = outputs;
}

pub ports_are : (ports : Ports) → (has : HasX ports) → ports ≡ ports_with ports.resets has.domain_of_x ports.outputs
ports_are ports has = λ i. record {
  domains = has.domains i;
  resets = ports.resets;
  inputs = has.inputs i;
  outputs = ports.outputs;
}

-- the domains by their names
abbrev pub names_at : Bool → List (List ℕ)
names_at odd = if odd then codes "A" ∷ codes "B" ∷ [] else codes "A" ∷ []

abbrev pub text_at : Bool → List ℕ → List ℕ
text_at odd digits = (if odd then codes "A B" else codes "A") ++ codes ": x=" ++ digits

abbrev pub part_of : List ℕ → List ℕ
part_of digits = 120 ∷ 61 ∷ digits

module _ (bits : List Bool) (digits : List ℕ) (four : FourDigits bits digits) where
  lacks : (byte : ℕ) → byte < 48 → Lacks byte digits
  lacks byte low = subst (Lacks byte) (sym four.are) (
    no_sign byte four.first low four.first_above,
    (
      no_sign byte four.second low four.second_above,
      (no_sign byte four.third low four.third_above, (no_sign byte four.fourth low four.fourth_above, tt)),
    ),
  )

  -- the line ends at its line feed
  pub no_feed : (odd : Bool) → Lacks 10 (text_at odd digits)
  no_feed true = (refl, (refl, (refl, (refl, (refl, (refl, (refl, lacks 10 (omega arith))))))))
  no_feed false = (refl, (refl, (refl, (refl, (refl, lacks 10 (omega arith))))))

  no_star : (odd : Bool) → Lacks 42 (text_at odd digits)
  no_star true = (refl, (refl, (refl, (refl, (refl, (refl, (refl, lacks 42 (omega arith))))))))
  no_star false = (refl, (refl, (refl, (refl, (refl, lacks 42 (omega arith))))))

  -- the part is one
  one_part : split_at 32 (part_of digits) ≡ part_of digits ∷ []
  one_part = split_last 32 (part_of digits) (has_none 32 (part_of digits) (refl, (refl, lacks 32 (omega arith))))

  is_part : IsPart (part_of digits)
  is_part = ((refl, tt), omega (arith, ap length four.are), four.hex)

  -- what the line is read as
  pub reads : (resets : List DomId) (d : DomId) (outputs : List Port) (odd : Bool)
      → Reads (ports_with resets d outputs) (text_at odd digits) (names_at odd) (part_of digits ∷ [])
  reads resets d outputs true = record {
    alone = has_none 42 (text_at true digits) (no_star true);
    colon = lt-ltb 3 (length (text_at true digits)) (omega arith);
    apart = refl;
    domains_are = refl;
    parts_are = one_part;
    form = record {
      each = refl;
      domains_are = (((refl, tt), refl), (((refl, tt), refl), tt));
      parts_are = (is_part, tt);
      once = (refl, (refl, tt));
    };
    names = (((refl, λ marked. absurd (false≢true marked)), ((refl, λ marked. absurd (false≢true marked)), tt)), (refl, tt));
    widths = (four.wide, tt);
  }
  reads resets d outputs false = record {
    alone = has_none 42 (text_at false digits) (no_star false);
    colon = lt-ltb 1 (length (text_at false digits)) (omega arith);
    apart = refl;
    domains_are = refl;
    parts_are = one_part;
    form = record {
      each = refl;
      domains_are = (((refl, tt), refl), tt);
      parts_are = (is_part, tt);
      once = (refl, tt);
    };
    names = (((refl, λ marked. absurd (false≢true marked)), tt), (refl, tt));
    widths = (four.wide, tt);
  }

  -- the event is that of its number
  pub event_from_is : (resets : List DomId) (d : DomId) (outputs : List Port) (odd : Bool)
      → event_from (ports_with resets d outputs) (names_at odd) (part_of digits ∷ [])
      ≡ record { ticks = if odd then domain 0 ∷ domain 1 ∷ [] else domain 0 ∷ []; resets = []; inputs = bits ∷ [] }
  event_from_is resets d outputs true = λ i. record { ticks = domain 0 ∷ domain 1 ∷ []; resets = []; inputs = four.back i ∷ [] }
  event_from_is resets d outputs false = λ i. record { ticks = domain 0 ∷ []; resets = []; inputs = four.back i ∷ [] }

  pub line_length : (odd : Bool) → length (text_at odd digits) ≤ 11
  line_length true = omega (arith, ap length four.are)
  line_length false = omega (arith, ap length four.are)
