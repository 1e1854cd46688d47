-- The values of a query that was read have the types of their fields.
use Rattle.std.proofs.Common.{◌≡◌, ℕ, Bool, true, false, cond, ◌&&◌, List, [], ◌∷◌, ◌++◌, map, Option, Some, None, Result, Ok, Err, refl, sym, subst, ◌∙◌}
use Rattle.std.specs.Prelude.{ℤ, codes, nat_le, IfSome, IfOk}
use Rattle.std.specs.List.{AllByRecursion, list_all}
use Rattle.std.specs.Option.{option_map, option_and_then, option_or}
use Rattle.std.specs.Result.{result_ok}
use Rattle.std.specs.Str.{bytes_eq}
use Rattle.tf_model.specs.declared.query.FieldType.{FieldType}
use Rattle.tf_model.specs.declared.query.FieldType.TheVariants.{Keyword, Long, Boolean, Date}
use Rattle.tf_model.specs.declared.query.Mapping.{Mapping}
use Rattle.tf_model.specs.declared.query.Query.{Query}
use Rattle.tf_model.specs.declared.query.Query.TheVariants as query
use Rattle.tf_model.specs.declared.tree.Tree.{Tree, fold-roll-Tree, roll-Tree, map-Tree}
use Rattle.tf_model.specs.declared.tree.Tree.TheFolds.{ind-Tree}
use Rattle.tf_model.specs.declared.tree.Tree.TheOpen.{Tree-F}
use Rattle.tf_model.specs.declared.value.Value.{Value}
use Rattle.tf_model.specs.declared.value.Value.TheVariants as value
use Rattle.tf_model.specs.Rows.{fits_i64}
use Rattle.tf_model.specs.Trees.{text_in, number_in, truth_in, members_in, member_of}
use Rattle.tf_model.specs.Values.{type_of}
use Rattle.tf_time.specs.Dates.{is_date, date_of, date_of_moment, moment}
use Rattle.tf_time.specs.declared.date.DateError.TheVariants as fault
use Rattle.tf_query.specs.declared.error.QueryError.{QueryError}
use Rattle.tf_query.specs.declared.error.QueryError.TheVariants as error
use Rattle.tf_query.specs.Queries.{Part, part_step, part_of, only, match_all_in, term_tree, term_beside, term_in, exists_in, end_of, range_of, range_beside, range_in, leaf_in, query_from, all_queries, clause, bool_of, clauses_from, parts_of}
use Rattle.tf_query.specs.Reading.{nesting, unmapped_in, if_mapped, if_formed, if_known}
use Rattle.tf_query.specs.Types.{suits, end_suits, suits_fields}
use Rattle.tf_query.specs.Values.{long_in, moment_in, date_text_in, value_by}
use Rattle.tf_query.proofs.TypeLaws.{types_all, types_term, types_exists, types_range, types_bool}
use Rattle.tf_config.specs.Reading.{query_by, kept}

-- ---- what is known of the value of an option
then_any : {A B : Type 0} (Q : B → Type 0) (f : A → Option B) (o : Option A) → ((a : A) → IfSome (f a) Q) → IfSome (option_and_then f o) Q
then_any Q f None step = tt
then_any Q f (Some a) step = step a

then_known : {A B : Type 0} (P : A → Type 0) (Q : B → Type 0) (f : A → Option B) (o : Option A) → IfSome o P → ((a : A) → P a → IfSome (f a) Q) → IfSome (option_and_then f o) Q
then_known P Q f None known step = tt
then_known P Q f (Some a) known step = step a known

mapped : {A B : Type 0} (P : A → Type 0) (Q : B → Type 0) (f : A → B) (o : Option A) → IfSome o P → ((a : A) → P a → Q (f a)) → IfSome (option_map f o) Q
mapped P Q f None known step = tt
mapped P Q f (Some a) known step = step a known

mapped_any : {A B : Type 0} (Q : B → Type 0) (f : A → B) (o : Option A) → ((a : A) → Q (f a)) → IfSome (option_map f o) Q
mapped_any Q f None step = tt
mapped_any Q f (Some a) step = step a

either : {A : Type 0} (P : A → Type 0) (b : Bool) (o p : Option A) → IfSome o P → IfSome p P → IfSome (cond b o p) P
either P true o p here there = here
either P false o p here there = there

first_of_two : {A : Type 0} (P : A → Type 0) (o p : Option A) → IfSome o P → IfSome p P → IfSome (option_or o p) P
first_of_two P None p here there = there
first_of_two P (Some a) p here there = here

both : (a b : Bool) → a ≡ true → b ≡ true → (a && b) ≡ true
both true b ha hb = hb
both false b ha hb = ha

-- ---- values
where_true : (test : ℤ → Bool) (n : ℤ) (b : Bool) → test n ≡ b → IfSome (cond b (Some n) None) (λ m. test m ≡ true)
where_true test n true is = is
where_true test n false is = tt

tested : (test : ℤ → Bool) (o : Option ℤ) → IfSome (option_and_then (λ n. cond (test n) (Some n) None) o) (λ n. test n ≡ true)
tested test None = tt
tested test (Some n) = where_true test n (test n) refl

abbrev InRange : ℤ → Type 0
InRange ms = is_date ms ≡ true

in_range : (found : Option ℤ) → IfSome (result_ok (date_of_moment found)) InRange
in_range None = tt
in_range (Some ms) = by (is_date ms) refl
  where
    by : (b : Bool) → is_date ms ≡ b → IfSome (result_ok (cond b (Ok ms) (Err fault.OutOfRange))) InRange
    by true is = is
    by false is = tt

date_fits : (t : Tree) → IfSome (option_or (moment_in t) (date_text_in t)) InRange
date_fits t =
    first_of_two InRange (moment_in t) (date_text_in t) (tested is_date (number_in t)) (then_any InRange (λ text. result_ok (date_of text)) (text_in t) (λ text. in_range (moment text)))

abbrev Suits : Option FieldType → Value → Type 0
Suits type v = suits type v ≡ true

value_suits : (type : Option FieldType) (t : Tree) → IfSome (value_by type t) (Suits type)
value_suits None t = refl
value_suits (Some Keyword) t = mapped_any (Suits (Some Keyword)) value.Str (text_in t) (λ text. refl)
value_suits (Some Long) t = mapped (λ n. fits_i64 n ≡ true) (Suits (Some Long)) value.Int (long_in t) (tested fits_i64 (number_in t)) (λ n fits. fits)
value_suits (Some Boolean) t = mapped_any (Suits (Some Boolean)) value.Bool (truth_in t) (λ b. refl)
value_suits (Some Date) t = mapped InRange (Suits (Some Date)) value.Date (option_or (moment_in t) (date_text_in t)) (date_fits t) (λ ms fits. fits)

abbrev End : Type 0
End = Option Value × Bool

abbrev EndSuits : Option FieldType → End → Type 0
EndSuits type end = end_suits type end.0 ≡ true

end_fits : (type : Option FieldType) (closed strict : Option Tree) → IfSome (end_of (value_by type) closed strict) (EndSuits type)
end_fits type None None = refl
end_fits type (Some t) None = mapped (Suits type) (EndSuits type) (λ (v : Value). (Some v, false)) (value_by type t) (value_suits type t) (λ v fits. fits)
end_fits type None (Some t) = mapped (Suits type) (EndSuits type) (λ (v : Value). (Some v, true)) (value_by type t) (value_suits type t) (λ v fits. fits)
end_fits type (Some t) (Some u) = tt

module _ (fields : Mapping) where
  abbrev IsTyped : Query → Type 0
  IsTyped q = suits_fields fields q ≡ true

  abbrev AreTyped : List Query → Type 0
  AreTyped qs = list_all (suits_fields fields) qs ≡ true

  -- ---- queries that hold no other
  term_typed : (m : Option (List ℕ × Tree)) → IfSome (option_and_then (term_beside fields) m) IsTyped
  term_typed m = then_any IsTyped (term_beside fields) m (λ m.
      let type = type_of fields m.0 in
      mapped (Suits type) IsTyped (query.Term m.0) (option_and_then (value_by type) (term_tree m.1 (members_in m.1)))
      (then_any (Suits type) (value_by type) (term_tree m.1 (members_in m.1)) (value_suits type)) (λ v fits. types_term fields m.0 v ∙ fits))

  range_of_typed : (field : List ℕ) (low high : End) → EndSuits (type_of fields field) low → EndSuits (type_of fields field) high → IfSome (range_of field low high) IsTyped
  range_of_typed field (None, a) (None, b) lower upper = tt
  range_of_typed field (Some v, a) high lower upper = types_range fields field (Some v) a high.0 high.1 ∙ both (end_suits (type_of fields field) (Some v)) (end_suits (type_of fields field) high.0) lower upper
  range_of_typed field (None, a) (Some v, b) lower upper = types_range fields field None a (Some v) b ∙ upper

  range_typed : (m : Option (List ℕ × Tree)) → IfSome (option_and_then (range_beside fields) m) IsTyped
  range_typed m = then_any IsTyped (range_beside fields) m (λ m.
      let type = type_of fields m.0 in
      let upper = end_of (value_by type) (member_of m.1 (codes "lte")) (member_of m.1 (codes "lt")) in
      let lower = end_of (value_by type) (member_of m.1 (codes "gte")) (member_of m.1 (codes "gt")) in
      then_known (EndSuits type) IsTyped (λ (low : End). option_and_then (range_of m.0 low) upper) lower (end_fits type (member_of m.1 (codes "gte")) (member_of m.1 (codes "gt")))
      (λ low low_fits. then_known (EndSuits type) IsTyped (range_of m.0 low) upper (end_fits type (member_of m.1 (codes "lte")) (member_of m.1 (codes "lt")))
      (λ high high_fits. range_of_typed m.0 low high low_fits high_fits)))

  leaf_typed : (kind : List ℕ) (t : Tree) → IfSome (leaf_in fields kind t) IsTyped
  leaf_typed kind t =
      let exists = cond (bytes_eq kind (codes "exists")) (exists_in t) None in
      let range = cond (bytes_eq kind (codes "range")) (range_in fields t) exists in
      let term = cond (bytes_eq kind (codes "term")) (term_in fields t) range in
      either IsTyped (bytes_eq kind (codes "match_all")) (match_all_in t) term (mapped_any IsTyped (λ members. query.MatchAll) (members_in t) (λ members. types_all fields))
      (either IsTyped (bytes_eq kind (codes "term")) (term_in fields t) range (term_typed (only (members_in t)))
      (either IsTyped (bytes_eq kind (codes "range")) (range_in fields t) exists (range_typed (only (members_in t)))
      (either IsTyped (bytes_eq kind (codes "exists")) (exists_in t) None
      (mapped_any IsTyped query.Exists (option_and_then text_in (member_of t (codes "field"))) (types_exists fields)) tt)))

  -- ---- queries inside
  record IsTypedPart (part : Part) : Type 0 where
    query : IfSome part.query IsTyped
    queries : IfSome part.queries AreTyped
    clauses : IfSome part.clauses IsTyped

  abbrev Members : Type 0
  Members = List (List ℕ × Part)

  abbrev AreTypedParts : Members → Type 0
  AreTypedParts members = AllByRecursion (λ m. IsTypedPart m.1) members

  all_typed : (items : List Part) → AllByRecursion IsTypedPart items → IfSome (all_queries items) AreTyped
  all_typed [] typed = refl
  all_typed (item ∷ items) typed =
      then_known IsTyped AreTyped (λ q. option_map (λ qs. q ∷ qs) (all_queries items)) item.query typed.0.query
      (λ q first. mapped AreTyped AreTyped (λ qs. q ∷ qs) (all_queries items) (all_typed items typed.1) (λ qs rest. both (suits_fields fields q) (list_all (suits_fields fields) qs) first rest))

  query_typed : (members : Members) → AreTypedParts members → IfSome (query_from fields members) IsTyped
  query_typed [] typed = tt
  query_typed (m ∷ []) typed = either IsTyped (bytes_eq m.0 (codes "bool")) m.1.clauses (leaf_in fields m.0 m.1.itself) typed.0.clauses (leaf_typed m.0 m.1.itself)
  query_typed (m ∷ n ∷ members) typed = tt

  clause_typed : (name : List ℕ) (members : Members) → AreTypedParts members → IfSome (clause name members) AreTyped
  clause_typed name [] typed = refl
  clause_typed name (m ∷ members) typed = either AreTyped (bytes_eq m.0 name) m.1.queries (clause name members) typed.0.queries (clause_typed name members typed.1)

  and_more : (h rest all : Bool) → (h && rest) ≡ true → (rest ≡ true → all ≡ true) → (h && all) ≡ true
  and_more true rest all g later = later g
  and_more false rest all g later = g

  append_typed : (xs ys : List Query) → AreTyped xs → AreTyped ys → AreTyped (xs ++ ys)
  append_typed [] ys a b = b
  append_typed (x ∷ xs) ys a b = and_more (suits_fields fields x) (list_all (suits_fields fields) xs) (list_all (suits_fields fields) (xs ++ ys)) a (λ rest. append_typed xs ys rest b)

  bool_typed : (filter must must_not : List Query) → AreTyped filter → AreTyped must → AreTyped must_not → IsTyped (bool_of filter must must_not)
  bool_typed filter must must_not a b c =
      types_bool fields (filter ++ must) must_not ∙ both (list_all (suits_fields fields) (filter ++ must)) (list_all (suits_fields fields) must_not) (append_typed filter must a b) c

  clauses_typed : (members : Members) → AreTypedParts members → IfSome (clauses_from members) IsTyped
  clauses_typed members typed =
      let filters = clause (codes "filter") members in
      let musts = clause (codes "must") members in
      let must_nots = clause (codes "must_not") members in
      then_known AreTyped IsTyped (λ filter. option_and_then (λ must. option_map (bool_of filter must) must_nots) musts) filters (clause_typed (codes "filter") members typed)
      (λ filter a. then_known AreTyped IsTyped (λ must. option_map (bool_of filter must) must_nots) musts (clause_typed (codes "must") members typed)
      (λ must b. mapped AreTyped IsTyped (bool_of filter must) must_nots (clause_typed (codes "must_not") members typed) (λ must_not c. bool_typed filter must must_not a b c)))

  -- ---- trees
  abbrev TypedTree : Type 0
  TypedTree = (t : Tree) × IsTypedPart (part_of fields t)

  abbrev tree_beside : List ℕ × TypedTree → List ℕ × Tree
  tree_beside m = (m.0, m.1.0)

  items_typed : (items : List TypedTree) → AllByRecursion IsTypedPart (map (part_of fields) (map (λ e. e.0) items))
  items_typed [] = tt
  items_typed (e ∷ items) = (e.1, items_typed items)

  members_typed : (members : List (List ℕ × TypedTree)) → AreTypedParts (parts_of fields (map tree_beside members))
  members_typed [] = tt
  members_typed (m ∷ members) = (m.1.1, members_typed members)

  step_typed : (y : Tree-F TypedTree) → IsTypedPart (part_step fields (map-Tree Tree Part (part_of fields) (map-Tree TypedTree Tree (λ e. e.0) y)))
  step_typed (Tree-F.Arr items) = record { query = tt; queries = all_typed (map (part_of fields) (map (λ e. e.0) items)) (items_typed items); clauses = tt }
  step_typed (Tree-F.Obj members) =
      let parts = parts_of fields (map tree_beside members) in
      let typed = members_typed members in
      let one = query_typed parts typed in
      record {
        query = one;
        queries = mapped IsTyped AreTyped (λ q. q ∷ []) (query_from fields parts) one (λ q first. both (suits_fields fields q) true first refl);
        clauses = clauses_typed parts typed;
      }
  step_typed y = record { query = tt; queries = tt; clauses = tt }

  level_typed : (y : Tree-F TypedTree) → IsTypedPart (part_of fields (roll-Tree (map-Tree TypedTree Tree (λ e. e.0) y)))
  unfolding part_of
  level_typed y = subst IsTypedPart (sym (fold-roll-Tree Part (part_step fields) (map-Tree TypedTree Tree (λ e. e.0) y))) (step_typed y)

  part_typed : (t : Tree) → IsTypedPart (part_of fields t)
  part_typed = ind-Tree (λ t. IsTypedPart (part_of fields t)) (λ x y is. subst (λ z. IsTypedPart (part_of fields (roll-Tree z))) is (level_typed y))

  -- ---- queries that were read
  mapped_typed : (q : Query) (o : Option (List ℕ)) → IsTyped q → IfOk (if_mapped q o) IsTyped
  mapped_typed q None typed = typed
  mapped_typed q (Some field) typed = tt

  nested_typed : (b : Bool) (q : Query) → IsTyped q → IfOk (cond b (if_mapped q (unmapped_in fields q)) (Err (error.TooDeep (codes "query")))) IsTyped
  nested_typed true q typed = mapped_typed q (unmapped_in fields q) typed
  nested_typed false q typed = tt

  formed_typed : (o : Option Query) → IfSome o IsTyped → IfOk (if_formed fields o) IsTyped
  formed_typed None typed = tt
  formed_typed (Some q) typed = nested_typed (nat_le (nesting q) 16) q typed

  known_typed : (t : Tree) (o : Option (List ℕ)) → IfOk (if_known fields t o) IsTyped
  known_typed t None = formed_typed (part_of fields t).query (part_typed t).query
  known_typed t (Some path) = tt

  read_typed : (o : Option Tree) → IfOk (query_by fields o) IsTyped
  read_typed None = types_all fields
  read_typed (Some t) = known_typed t _

  kept_by : (read : Result Query QueryError) → IfOk read IsTyped → IsTyped (kept read)
  kept_by (Ok q) typed = typed
  kept_by (Err refusal) typed = types_all fields

  -- the query that is kept of one that was read
  pub kept_typed : (o : Option Tree) → suits_fields fields (kept (query_by fields o)) ≡ true
  kept_typed o = kept_by (query_by fields o) (read_typed o)
