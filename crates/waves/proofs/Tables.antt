-- Tables of values: their widths, and new values in place of others.
use Rattle.std.proofs.Common.{◌≡◌, ℕ, ◌+◌, ◌<◌, Bool, true, false, cond, ◌&&◌, List, [], ◌∷◌, ◌++◌, length, map, set, get_or, take, drop, refl, sym, ap, ◌∙◌, arith, append_assoc}
use Rattle.std.proofs.lemmas.List.{drop_more, get_or-map, get_or_at, length-append, length-map, length-take-le, set_at, take_more}
use Rattle.chw_clock.specs.Histories.{HaveWidths, has_reset, resets, ticks}
use Rattle.chw_clock.specs.declared.event.Event.{Event}
use Rattle.chw_clock.specs.declared.event.Port.{Port}
use Rattle.chw_clock.specs.declared.event.Ports.{Ports}
use Rattle.verilog_text.specs.Names.{clock_name, reset_name}
use Rattle.verilog_text.specs.Text.{clock_names, domain_names}
use Rattle.waves.specs.Holding.{widths}
use Rattle.waves.specs.Vcd.{domain_levels, levels_from}

-- bits of the widths of ports have those widths
pub widths_of : (ports : List Port) (values : List (List Bool)) → HaveWidths ports values → map length values ≡ widths ports
widths_of [] [] have = refl
widths_of [] (bits ∷ values) have = absurd have
widths_of (port ∷ ports) [] have = absurd have
widths_of (port ∷ ports) (bits ∷ values) have = ap (λ n. n ∷ map length values) have.0 ∙ ap (λ ns. port.width ∷ ns) (widths_of ports values have.1)

-- lists of the same widths are as long
pub as_many : (xs ys : List (List Bool)) → map length xs ≡ map length ys → length xs ≡ length ys
as_many xs ys same = sym (length-map xs length) ∙ ap length same ∙ length-map ys length

split_here : (new old values : List (List Bool)) (k : ℕ) → k < length old → values ≡ take k new ++ drop k old
    → values ≡ take k new ++ get_or old k [] ∷ drop (k + 1) old
split_here new old values k within is = is ∙ ap (λ rest. take k new ++ rest) (drop_more old k [] within)

-- one more new value
pub renewed : (new old values : List (List Bool)) (k : ℕ) (bits : List Bool) → k < length new → length new ≡ length old
    → values ≡ take k new ++ drop k old → bits ≡ get_or new k [] → set values k bits ≡ take (k + 1) new ++ drop (k + 1) old
renewed new old values k bits within same is made =
    let back = drop (k + 1) old in
    let count : length (take k new) ≡ k = length-take-le k new (omega arith) in
    ap (λ b. set values k b) made ∙ ap (λ l. set l k (get_or new k [])) (split_here new old values k (omega arith) is)
    ∙ set_at (take k new) (get_or old k []) back (get_or new k []) k count
    ∙ sym (append_assoc (take k new) (get_or new k [] ∷ []) back) ∙ ap (λ f. f ++ back) (sym (take_more new k [] within))

-- the value where it goes has its width
pub renewed_width : (new old values : List (List Bool)) (k : ℕ) (d : List Bool) → k < length new → map length new ≡ map length old
    → values ≡ take k new ++ drop k old → length (get_or new k []) ≡ length (get_or values k d)
renewed_width new old values k d within same is =
    let many = as_many new old same in
    let count : length (take k new) ≡ k = length-take-le k new (omega arith) in
    let there : get_or values k d ≡ get_or old k [] =
    ap (λ l. get_or l k d) (split_here new old values k (omega arith) is) ∙ get_or_at (take k new) (get_or old k []) (drop (k + 1) old) d k count in
    sym (get_or-map length new k [] 0 within) ∙ ap (λ l. get_or l k 0) same ∙ get_or-map length old k [] 0 (omega arith)
    ∙ ap length (sym there)

domain_count : (ports : Ports) (risen : Bool) (event : Event) (k : ℕ) (domain : List ℕ)
    → length (domain_levels ports risen event k) ≡ length (domain_names ports.resets k domain)
domain_count ports risen event k domain = at (has_reset ports (record { number = k }))
  where
    at : (has : Bool) → length ((risen && ticks event (record { number = k })) ∷ cond has (resets event (record { number = k }) ∷ []) [])
        ≡ length (clock_name domain ∷ cond has (reset_name domain ∷ []) [])
    at true = refl
    at false = refl

-- as many levels as clocks and resets
pub level_count : (ports : Ports) (risen : Bool) (event : Event) (k : ℕ) (domains : List (List ℕ))
    → length (levels_from ports risen event k domains) ≡ length (clock_names ports.resets k domains)
level_count ports risen event k [] = refl
level_count ports risen event k (domain ∷ domains) =
    length-append (domain_levels ports risen event k) (levels_from ports risen event (k + 1) domains)
    ∙ ap (λ n. n + length (levels_from ports risen event (k + 1) domains)) (domain_count ports risen event k domain)
    ∙ ap (λ n. length (domain_names ports.resets k domain) + n) (level_count ports risen event (k + 1) domains)
    ∙ sym (length-append (domain_names ports.resets k domain) (clock_names ports.resets (k + 1) domains))
