-- Right sides that are settled.
use Rattle.std.proofs.Common.{◌≡◌, ◌∙◌, ◌≤◌, ◌<◌, ℕ, refl, sym, ap, subst, false}
use Rattle.std.proofs.Common.{List, [], ◌∷◌, ◌++◌, length, take, drop, append_assoc}
use Rattle.std.proofs.lemmas.List.{take-append-drop}
use Rattle.chw_terms.specs.declared.scene.Place.{Place}
use Rattle.chw_terms.specs.declared.term.Binding.{Binding}
use Rattle.chw_terms.specs.Depth.{depth}
use Rattle.chw_terms.specs.TermTree.{TermTree, letrec}
use Rattle.chw_terms.specs.TermView.{group_of}
use Rattle.chw_typing.specs.Scopes.{declared}
use Rattle.rewriting.specs.Origins.{Origins}
use Rattle.rewriting.specs.Spots.{Spot}
use Rattle.quiet_sides.specs.Quiet.{IsQuiet}
use Rattle.kept_letrecs.specs.Resting.{IsAtRest}
use Rattle.letrec_steps.specs.Local.{IsTypedHere}
use Rattle.open_letrec.specs.Opened.{Opened, whole, with_side, settled_one, put_first}
use Rattle.letrec_runs.specs.Rush.{in_order, place_in, AreQuiet, IsResting, IsSettledOn}

pub settled_nothing : (v w : Opened) → w ≡ v → IsSettledOn v w
settled_nothing v w q = record {
  order = ap (λ (u : Opened). u.settled ++ u.left) q;
  body = ap (λ (u : Opened). u.body) q;
  quiet = subst (λ (u : Opened). AreQuiet v.settled → AreQuiet u.settled) (sym q) (λ h. h);
}

pub settled_more : (u v w : Opened) → IsSettledOn u v → IsSettledOn v w → IsSettledOn u w
settled_more u v w a b = record { order = b.order ∙ a.order; body = b.body ∙ a.body; quiet = λ h. b.quiet (a.quiet h) }

quiet_appended : (settled left : List Binding) (e : TermTree) → IsQuiet e → AreQuiet settled → AreQuiet (settled ++ take 1 (put_first e left))
quiet_appended [] [] e q h = tt
quiet_appended [] (b ∷ left) e q h = (q, tt)
quiet_appended (c ∷ settled) left e q h = (h.0, quiet_appended settled left e q h.1)

-- the current right side, if it is quiet
pub settled_current : (u v w : Opened) (e : TermTree) → u ≡ with_side v e → IsQuiet e → w ≡ settled_one u → IsSettledOn u w
settled_current u v w e is quiet q = settled_more u u w (settled_nothing u u refl) (record {
  order = ap (λ (x : Opened). x.settled ++ x.left) q ∙ append_assoc u.settled (take 1 u.left) (drop 1 u.left) ∙ ap (λ xs. u.settled ++ xs) (take-append-drop 1 u.left);
  body = ap (λ (x : Opened). x.body) q;
  quiet = λ h.
      subst (λ (x : Opened). AreQuiet x.settled) (sym q)
      (subst (λ (x : Opened). AreQuiet (x.settled ++ take 1 x.left)) (sym is) (quiet_appended v.settled v.left e quiet (subst (λ (x : Opened). AreQuiet x.settled) is h)));
})

pub put_length : (left : List Binding) (e : TermTree) → length (put_first e left) ≡ length left
put_length [] e = refl
put_length (b ∷ left) e = refl

-- a right side that is taken out leaves as many
pub some_left : (u v : Opened) (e : TermTree) → u ≡ with_side v e → 0 < length u.left → 0 < length v.left
some_left u v e is l = subst (λ n. 0 < n) (ap (λ (x : Opened). length x.left) is ∙ put_length v.left e) l

-- the letrec is the same
pub whole_settled : (v w : Opened) → IsSettledOn v w → whole w ≡ whole v
whole_settled v w s = λ i. letrec (group_of (s.order i)) (s.body i)

pub place_settled : (at : Place) (v w : Opened) → IsSettledOn v w → place_in at w ≡ place_in at v
place_settled at v w s = ap (λ bs. record { mode = at.mode; result = false; vars = at.vars ++ declared (group_of bs) }) s.order

pub resting_settled : (o : Origins) (at : Spot) (most : ℕ) (v w : Opened) → IsSettledOn v w → IsResting o at most v → IsResting o at most w
resting_settled o at most v w s h = record {
  typed = subst (IsTypedHere o at) (sym (whole_settled v w s)) h.typed;
  rest = subst (λ e. IsAtRest o.program.datas at.mode (in_order w) e) (sym s.body) (subst (λ bs. IsAtRest o.program.datas at.mode (group_of bs) v.body) (sym s.order) h.rest);
  quiet = s.quiet h.quiet;
  shallow = subst (λ e. depth e ≤ most) (sym (whole_settled v w s)) h.shallow;
}
