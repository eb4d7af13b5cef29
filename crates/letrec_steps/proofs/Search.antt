-- Searches that go on from the top of a made definition.
use Rattle.std.proofs.Common.{◌≡◌, ◌≢◌, ◌⊎◌, inl, inr, ℕ, ◌<◌, ◌≤◌, sym, subst, arith, List, [], ◌++◌}
use Rattle.std.proofs.lemmas.Bool.{cases_lt, cases_eq}
use Rattle.std.proofs.lemmas.List.{append-nil}
use Rattle.chw_typing.specs.Paths.{IsEarlier}
use Rattle.rewriting.specs.Steps.{Where}
use Rattle.step_order.specs.Sought.{IsSought}
use Rattle.letrec_steps.specs.StateLaws.{SoughtHasNoneBefore, TopIsSought}
use Rattle.letrec_steps.proofs.Paths.{earlier_behind, nothing_before_root}
use Rattle.letrec_steps.proofs.States.{step_in_top}

not_sought : (m : ℕ) (from : List ℕ) (v : Where) → IsSought m from v → v.number < m → ⊥
not_sought m from v (inl k) l = omega (arith, k, l)
not_sought m from v (inr h) l = omega (arith, h.0, l)

pub sought_has_none_before : SoughtHasNoneBefore
sought_has_none_before rules p made m from sought v new s l =
    not_sought m from v (sought v new s) l

-- nothing behind a path is earlier
not_earlier : (q r path : List ℕ) → path ≡ q ++ r → IsEarlier path q → ⊥
not_earlier q r path is l =
    nothing_before_root r
    (earlier_behind q r []
    (subst (λ w. IsEarlier (q ++ r) w) (sym (append-nil q)) (subst (λ w. IsEarlier w q) is l)))

pub top_is_sought : TopIsSought
top_is_sought rules p made m it q at top v new is none s =
    by (cases_lt v.number m) (cases_eq v.number m)
  where
    by : (v.number < m) ⊎ (m ≤ v.number) → (v.number ≡ m) ⊎ (v.number ≢ m) → IsSought m q v
    by (inl l) e = absurd (none v new s l)
    by (inr l) (inl same) =
        let x = step_in_top rules p made m it q at top is v new s same in
        inr (sym same, inl (not_earlier q x.0 v.path x.1))
    by (inr l) (inr n) = inl (omega (arith, l, n))
