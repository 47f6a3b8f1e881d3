-- The path of a publication.
use Rattle.std.proofs.Common.{◌≡◌, ◌⊎◌, inl, inr, ℕ, List, [], ◌∷◌, Option, Some, None, Bool, true, false, cond, refl, sym, ap, ◌∙◌, subst, codes, ◌&&◌, bytes_eq}
use Rattle.std.proofs.lemmas.Bool.{and_parts}
use Rattle.std.proofs.lemmas.Slice.Eq.{bytes_eq-Decides}
use Rattle.std.specs.Prelude.{option_map}
use Rattle.matchit.proofs.OnLiterals.{matchit_on_literals}
use Rattle.matchit.specs.Router.{RouteOf}
use Rattle.matchit.specs.Rows.{RowsOf}
use Rattle.matchit.specs.Seek.{first}
use Rattle.fare_desk.specs.declared.routes.Route.{Route}
use Rattle.fare_desk.specs.declared.routes.Route.TheVariants.{Editions, Edition, Listing, Quote, Batch}
use Rattle.fare_desk.specs.Routes.{desk_rows, route_of}
use Rattle.fare_counter.proofs.WalkLemmas.{Has, are_plain, seek-has}

-- the row is that of the list of editions
is_editions : RouteOf Route → Bool
is_editions row = elim row.value [ Editions ↦ true | Edition ↦ false | Listing ↦ false | Quote ↦ false | Batch ↦ false ]

-- the rows of the list of editions spell its path
only_editions : RowsOf (RouteOf Route) → Bool
only_editions [] = true
only_editions ((tokens, row) ∷ rest) = cond (is_editions row) (bytes_eq tokens (codes "/editions")) true && only_editions rest

spelled : (rows : RowsOf (RouteOf Route)) (path : List ℕ) (row : RouteOf Route) → only_editions rows ≡ true
    → is_editions row ≡ true → Has is_editions rows path row → path ≡ codes "/editions"
unfolding only_editions
spelled [] path row only is has = absurd has
spelled ((tokens, first) ∷ rest) path row only is (inl here) =
    let same : first ≡ row = here.1 in
    let first_is : is_editions first ≡ true = subst (λ r. is_editions r ≡ true) (sym same) is in
    let parts = and_parts (cond (is_editions first) (bytes_eq tokens (codes "/editions")) true) (only_editions rest) only in
    let test : bytes_eq tokens (codes "/editions") ≡ true = rw first_is at parts.0 in
    sym here.0 ∙ (bytes_eq-Decides tokens (codes "/editions")).0 test
spelled ((tokens, first) ∷ rest) path row only is (inr later) =
    spelled rest path row (and_parts (cond (is_editions first) (bytes_eq tokens (codes "/editions")) true) (only_editions rest) only).1 is later

-- only one path takes the route of the list of editions
pub editions_path : (path : List ℕ) → route_of path ≡ Some Editions → path ≡ codes "/editions"
unfolding desk_rows matchit_on_literals is_editions only_editions
editions_path path taken = by (first desk_rows path) refl taken
  where
    by : (found : Option (RouteOf Route)) → first desk_rows path ≡ found → option_map (λ row. row.value) found ≡ Some Editions
        → path ≡ codes "/editions"
    by None e taken = absurd (cc)
    by (Some row) e taken =
        let value : row.value ≡ Editions = cc in
        let is : is_editions row ≡ true = rw value refl in
        spelled desk_rows path row refl is (seek-has is_editions desk_rows path row refl is e)
