-- A text that is read line by line.
use Rattle.std.proofs.Common.{◌≡◌, ℕ, ◌+◌, ◌<◌, ◌≤◌, List, [], ◌∷◌, ◌++◌, length, map, Option, None, Some, inl, inr, refl, sym, ap, ◌∙◌, subst, append_assoc, arith}
use Rattle.std.specs.Prelude.{IfNone}
use Rattle.std.specs.Borrow.{Bor}
use Rattle.std.specs.Option.{option_map}
use Rattle.std.proofs.lemmas.List.{append-nil, map-append}
use Rattle.std.proofs.lemmas.Option.{none-some}
use Rattle.chw_base.specs.Outcome.{OfFault}
use Rattle.chw_base.specs.declared.outcome.Or.{Or}
use Rattle.chw_base.specs.declared.outcome.Or.TheVariants.{Fault, Memory}
use Rattle.stimulus.specs.Texts.{lines_of, texts}
use Rattle.blif_text.specs.BlifText.{Lead, Said, TextSays, said}
use Rattle.blif_text.specs.BlifText.Lead.{none as no_lines}
use Rattle.blif_text.specs.Faults.{EndsEarly, IsMisplaced}
use Rattle.blif_text.specs.Lines.{Line, net_lines}
use Rattle.blif_text.specs.Statements.{Place, Says, Statement, place_behind}
use Rattle.blif_text.specs.Statements.Place.{at_model, behind_end}
use Rattle.blif_text.proofs.Going.{lead_more}
use Rattle.blif_text.proofs.OneSaid.{one_statement}
use Rattle.blif_read.specs.Reading.{IsFormFault, IsNext, IsPlaced, IsStuck, IsUnfit, Reached}
use Rattle.blif_read.specs.Shown.{all_said, end_of, line_of, lines_left, place_of, said_of, statement_of}
use Rattle.blif_read.specs.declared.lines.Left.{Left}
use Rattle.blif_read.specs.declared.lines.Line.{Line as ReadLine}
use Rattle.blif_read.specs.declared.places.Place.{Place as ReadPlace}
use Rattle.blif_read.specs.declared.places.Place.TheVariants.{AtModel, BehindEnd}
use Rattle.blif_read.specs.declared.said.At.{At}
use Rattle.blif_read.specs.declared.statement.Said.{Said as ReadSaid}
use Rattle.blif_read.specs.declared.statement.Statement.{Statement as ReadStatement}
use Rattle.blif_read.proofs.Standing.{not_at_end}

-- a line that says nothing
pub unsaid : (place : ReadPlace) (line : ReadLine) (ws : List (Bor (List ℕ))) (number : ℕ) → ws ≡ line.words.items
    → ((s : Statement) → Says (texts ws) s → ⊥) → number ≡ line.number → IsUnfit place (line_of line) number
unsaid place line ws number is never here = record {
  none = λ s next says to. never s (subst (λ (vs : List (Bor (List ℕ))). Says (texts vs) s) (sym is) says);
  here = here;
}

-- a line whose statement may not stand there
pub unplaced : (place : ReadPlace) (line : ReadLine) (ws : List (Bor (List ℕ))) (number : ℕ) (it : ReadStatement) → ws ≡ line.words.items
    → Says (texts ws) (statement_of it) → None ≡ place_behind (place_of place) (statement_of it) → number ≡ line.number
    → IsUnfit place (line_of line) number
unplaced place line ws number it is said nothing here = record {
  none = λ s next says to.
      let there : Says (texts ws) s = subst (λ (vs : List (Bor (List ℕ))). Says (texts vs) s) (sym is) says in
      let same : statement_of it ≡ s = one_statement (statement_of it) s said.1 there.1 (sym said.0 ∙ there.0) in
      none-some next (nothing ∙ ap (place_behind (place_of place)) same ∙ to);
  here = here;
}

pub placed_is : (place : ReadPlace) (line : ReadLine) (ws : List (Bor (List ℕ))) (it : ReadSaid) (behind : ReadPlace) → ws ≡ line.words.items
    → Says (texts ws) (statement_of it.says) → Some (place_of behind) ≡ place_behind (place_of place) (statement_of it.says)
    → it.number ≡ line.number → IsPlaced place (line_of line) it behind
placed_is place line ws it behind is says there here = record {
  says = subst (λ (vs : List (Bor (List ℕ))). Says (texts vs) (statement_of it.says)) is says;
  number = here;
  next = sym there;
}

-- the first line of what is left
pub next_is : (at behind : At) (line : ReadLine) (it : ReadSaid) (place : ReadPlace) → lines_left at.left ≡ line_of line ∷ lines_left behind.left
    → end_of behind.left ≤ end_of at.left → length behind.left.text.now < length at.left.text.now → IsPlaced at.place (line_of line) it place
    → behind.place ≡ place → IsNext at it behind
next_is at behind line it place lines end shorter is place_is = record {
  line = line_of line;
  lines = lines;
  says = is.says;
  number = is.number;
  next = is.next ∙ ap (λ (p : ReadPlace). Some (place_of p)) (sym place_is);
  end = end;
  shorter = shorter;
}

pub stuck_is : (at : At) (line : ReadLine) (left : Left) (e : Or ℕ) → lines_left at.left ≡ line_of line ∷ lines_left left
    → OfFault e (IsUnfit at.place (line_of line)) → OfFault e (IsStuck at)
stuck_is at line left Memory lines unfit = tt
stuck_is at line left (Fault number) lines unfit = record {
  line = line_of line;
  others = lines_left left;
  lines = lines;
  none = unfit.none;
  here = unfit.here;
}

-- at first all is left
pub reached_first : (text : Bor (List ℕ)) (all : List ReadSaid) → all ≡ []
    → Reached text.now (record { left = record { text = text; number = 1 }; place = AtModel }) all
reached_first text all none = record {
  front = [];
  lines = refl;
  lead = subst (λ (xs : List ReadSaid). Lead at_model [] (all_said xs) at_model) (sym none) (no_lines at_model);
  end = omega arith;
}

-- one statement more
pub reached_more : (text : List ℕ) (at behind : At) (all pushed : List ReadSaid) (it : ReadSaid) → Reached text at all → IsNext at it behind
    → pushed ≡ all ++ it ∷ [] → Reached text behind pushed
reached_more text at behind all pushed it reached next pushed_is =
    let front = reached.front in
    let shown : all_said all ++ said next.line.number (statement_of it.says) ∷ [] ≡ all_said pushed =
    ap (λ n. all_said all ++ said n (statement_of it.says) ∷ []) (sym next.number) ∙ sym (map-append said_of all (it ∷ [])) ∙ ap all_said (sym pushed_is) in
    record {
      front = front ++ next.line ∷ [];
      lines = reached.lines ∙ ap (λ (ls : List Line). front ++ ls) next.lines ∙ sym (append_assoc front (next.line ∷ []) (lines_left behind.left));
      lead = subst (λ (xs : List Said). Lead at_model (front ++ next.line ∷ []) xs (place_of behind.place)) shown
          (lead_more at_model front (all_said all) (place_of at.place) (place_of behind.place) next.line (statement_of it.says) reached.lead next.says next.next);
      end = omega (arith, reached.end, next.end);
    }

-- no statement is next
pub none_left : (r : Option (ReadSaid × At)) (P : Type 0) → IfNone r P → ((x : ReadSaid × At) → r ≡ Some x → ⊥) → P
none_left None P none never = none
none_left (Some x) P none never = absurd (never x refl)

-- nothing is left
whole : (text : List ℕ) (at : At) (all : List ReadSaid) → Reached text at all → lines_left at.left ≡ []
    → Lead at_model (net_lines text) (all_said all) (place_of at.place)
whole text at all reached none =
    subst (λ (ls : List Line). Lead at_model ls (all_said all) (place_of at.place))
    (sym (reached.lines ∙ ap (λ (ls : List Line). reached.front ++ ls) none ∙ append-nil reached.front)) reached.lead

pub reached_end : (text : List ℕ) (at : At) (all : List ReadSaid) → Reached text at all → lines_left at.left ≡ [] → at.place ≡ BehindEnd
    → TextSays text (all_said all)
reached_end text at all reached none there =
    subst (λ (p : ReadPlace). Lead at_model (net_lines text) (all_said all) (place_of p)) there (whole text at all reached none)

pub reached_early : (text : List ℕ) (at : At) (all : List ReadSaid) (number : ℕ) → Reached text at all → lines_left at.left ≡ []
    → (at.place ≡ BehindEnd → ⊥) → number ≡ length (lines_of text) → IsFormFault text number
reached_early text at all number reached none early here = inr (record {
  all = all_said all;
  place = place_of at.place;
  before = whole text at all reached none;
  early = not_at_end at.place early;
  here = here;
})

-- a line fits nothing
stuck : (text : List ℕ) (at : At) (all : List ReadSaid) (number : ℕ) → Reached text at all → IsStuck at number → IsMisplaced (net_lines text) number
stuck text at all number reached it = record {
  front = reached.front;
  line = it.line;
  others = it.others;
  lines_are = reached.lines ∙ ap (λ (ls : List Line). reached.front ++ ls) it.lines;
  all = all_said all;
  place = place_of at.place;
  before = reached.lead;
  none = it.none;
  here = it.here;
}

pub reached_stuck : (text : List ℕ) (at : At) (all : List ReadSaid) (e : Or ℕ) → Reached text at all → OfFault e (IsStuck at) → OfFault e (IsFormFault text)
reached_stuck text at all Memory reached it = tt
reached_stuck text at all (Fault number) reached it = inl (stuck text at all number reached it)
