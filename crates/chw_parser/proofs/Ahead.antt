-- Going on by rules and actions.
use Rattle.std.specs.Prelude.{◌≡◌, suc, Some, None, List, [], ◌∷◌, ◌++◌}
use Rattle.std.proofs.Common.{sym, ap, ◌∙◌, subst, ◌<◌, arith}
use Rattle.chw_grammar.specs.declared.terminal.Terminal.{Terminal}
use Rattle.chw_grammar.specs.Lexemes.{Lexeme, next}
use Rattle.parser_parts.specs.declared.action.Action.{Action}
use Rattle.parser_parts.specs.declared.parts.Parts.{Parts}
use Rattle.parser_parts.specs.declared.value.Value.{Value}
use Rattle.parser_parts.specs.Actions.{made}
use Rattle.parser_parts.specs.Parts.{Stands}
use Rattle.chw_parser.specs.declared.symbol.Symbol.{Symbol}
use Rattle.chw_parser.specs.declared.symbol.Symbol.TheVariants.{Part, Act}
use Rattle.chw_parser.specs.declared.symbol.Rule.{Rule}
use Rattle.chw_parser.specs.Ending.{weight}
use Rattle.chw_parser.specs.Machine.{Runs, part, act, on_part, on_act}
use Rattle.chw_parser.specs.Productions.{production}
use Rattle.chw_parser.specs.State.{Goes, Ahead, Refuses}
use Rattle.chw_parser.proofs.Chosen.{is_production}
use Rattle.chw_parser.proofs.Once.{some_same}
use Rattle.chw_parser.proofs.Stacks.{still_fine, lighter}

-- what an action makes of the parts for which the kept ones stand
abbrev pub Acts : Action → Parts → Parts → Type 0
Acts m p p' = (vs us : List Value) → Stands p vs → made m vs ≡ Some us → Stands p' us

pub ahead_none : (x : Terminal) (s : List Symbol) (p : Parts) → Ahead x s p s p
ahead_none x s p = record { runs = λ more out e r. r; reads = λ more n e r. (n, r); fine = λ f. f }

part_runs : {r : Rule} {s : List Symbol} {more : List Lexeme} {vs out : List Value} (p : List Symbol)
    → Runs (Part r ∷ s) more vs out → production r (next more) ≡ Some p → Runs (p ++ s) more vs out
part_runs {s = s} {more = more} {vs = vs} {out = out} p (part q e r) h =
    subst (λ (z : List Symbol). Runs (z ++ s) more vs out) (some_same (sym e ∙ h)) r

part_goes : {r : Rule} {s : List Symbol} {more : List Lexeme} {p : Parts} {out : List Value} (q : List Symbol)
    → Goes (Part r ∷ s) more p out → production r (next more) ≡ Some q → Goes (q ++ s) more p out
part_goes q g h = record { before = g.before; stands = g.stands; runs = part_runs q g.runs h }

part_none : {r : Rule} {s : List Symbol} {more : List Lexeme} {vs out : List Value}
    → Runs (Part r ∷ s) more vs out → production r (next more) ≡ None → ⊥
part_none (part q e r) h = let e' : Some q ≡ None = sym e ∙ h in cc

act_runs : {m : Action} {s : List Symbol} {more : List Lexeme} {vs out : List Value} {p p' : Parts}
    → Runs (Act m ∷ s) more vs out → Stands p vs → Acts m p p' → Goes s more p' out
act_runs {vs = vs} (act us e r) st h = record { before = us; stands = h vs us st e; runs = r }

pub ahead_part : (x : Terminal) (s : List Symbol) (p : Parts) (r : Rule) (q t : List Symbol) (p' : Parts)
    → Ahead x s p (Part r ∷ t) p' → production r x ≡ Some q → Ahead x s p (q ++ t) p'
ahead_part x s p r q t p' a e = record {
  runs = λ more out h g. part_goes q (a.runs more out h g) (ap (production r) h ∙ e);
  reads = λ more n h g. a.reads more (suc n) h (on_part q (ap (production r) h ∙ e) g);
  fine = λ f. let g = a.fine f in still_fine (is_production r x q e) t g.0 g.1;
}

pub ahead_act : (x : Terminal) (s : List Symbol) (p : Parts) (m : Action) (t : List Symbol) (p1 p2 : Parts)
    → Ahead x s p (Act m ∷ t) p1 → Acts m p1 p2 → Ahead x s p t p2
ahead_act x s p m t p1 p2 a e = record {
  runs = λ more out h g. let k = a.runs more out h g in act_runs k.runs k.stands e;
  reads = λ more n h g. a.reads more (suc n) h (on_act g);
  fine = λ f. a.fine f;
}

pub ahead_refused : (x : Terminal) (s : List Symbol) (p : Parts) (r : Rule) (t : List Symbol) (p' : Parts)
    → Ahead x s p (Part r ∷ t) p' → production r x ≡ None → Refuses x s p
ahead_refused x s p r t p' a e = λ more out h g. part_none (a.runs more out h g).runs (ap (production r) h ∙ e)

-- the same where the stack is known by equations

along : {x : Terminal} {s s1 s2 : List Symbol} {p p' : Parts} → Ahead x s p s1 p' → s1 ≡ s2 → Ahead x s p s2 p'
along {x = x} {s = s} {p = p} {p' = p'} a e = subst (λ (z : List Symbol). Ahead x s p z p') e a

top_is : {y z : Symbol} {s1 t : List Symbol} → s1 ≡ y ∷ t → y ≡ z → s1 ≡ z ∷ t
top_is {t = t} e f = let g : Symbol → List Symbol = λ w. w ∷ t in e ∙ ap g f

pub next_part : {x : Terminal} {s s1 s2 t q : List Symbol} {p p' : Parts} {y : Symbol} {r : Rule}
    → Ahead x s p s1 p' → s1 ≡ y ∷ t → y ≡ Part r → production r x ≡ Some q → s2 ≡ q ++ t → Ahead x s p s2 p'
next_part {x = x} {s = s} {t = t} {q = q} {p = p} {p' = p'} {r = r} a e f g h = along (ahead_part x s p r q t p' (along a (top_is e f)) g) (sym h)

pub part_smaller : (x : Terminal) {s1 s2 t p : List Symbol} {y : Symbol} {r : Rule}
    → s1 ≡ y ∷ t → y ≡ Part r → production r x ≡ Some p → s2 ≡ p ++ t → weight s2 < weight s1
part_smaller x {s1 = s1} {s2 = s2} {t = t} {p = p} {r = r} e f g h =
    let less = lighter (is_production r x p g) t in
    let one : weight s2 ≡ weight (p ++ t) = ap weight h in
    let two : weight s1 ≡ weight (Part r ∷ t) = ap weight (top_is e f) in
    omega (arith, less, one, two)

pub next_act : {x : Terminal} {s s1 t : List Symbol} {p p1 p2 : Parts} {y : Symbol} {m : Action}
    → Ahead x s p s1 p1 → s1 ≡ y ∷ t → y ≡ Act m → Acts m p1 p2 → Ahead x s p t p2
next_act {x = x} {s = s} {t = t} {p = p} {p1 = p1} {p2 = p2} {m = m} a e f h = ahead_act x s p m t p1 p2 (along a (top_is e f)) h

pub act_smaller : {s1 t : List Symbol} {y : Symbol} {m : Action} → s1 ≡ y ∷ t → y ≡ Act m → weight t < weight s1
act_smaller {s1 = s1} {t = t} {m = m} e f = let one : weight s1 ≡ weight (Act m ∷ t) = ap weight (top_is e f) in omega (arith, one)

pub next_refused : {x : Terminal} {s s1 t : List Symbol} {p p' : Parts} {y : Symbol} {r : Rule}
    → Ahead x s p s1 p' → s1 ≡ y ∷ t → y ≡ Part r → production r x ≡ None → Refuses x s p
next_refused {x = x} {s = s} {t = t} {p = p} {p' = p'} {r = r} a e f g = ahead_refused x s p r t p' (along a (top_is e f)) g

pub next_leaf : {x : Terminal} {s s1 t : List Symbol} {p p' : Parts} {y z : Symbol}
    → Ahead x s p s1 p' → s1 ≡ y ∷ t → y ≡ z → Ahead x s p (z ∷ t) p'
next_leaf a e f = along a (top_is e f)

pub next_nothing : {x : Terminal} {s s1 : List Symbol} {p p' : Parts} → Ahead x s p s1 p' → s1 ≡ [] → Ahead x s p [] p'
next_nothing a e = along a e
