-- The state of a keyed loop, with other numbers of its links.
use Rattle.std.proofs.Common.{◌≡◌, ◌≢◌, ⊎_elim, ℕ, Bool, true, false, not, cond, if◌then◌else◌, List, [], ◌∷◌, ◌++◌, map, filter, Option, Some, None, option_map, refl, sym, ap, ◌∙◌, subst}
use Rattle.std.proofs.lemmas.Bool.{cases_eq, eq-eqb, eqb-true}
use Rattle.fwd_secure.specs.declared.handshakes.KeptBytes.{KeptBytes}
use Rattle.fwd_secure.specs.declared.handshakes.KeptBytes.TheVariants.{OfConn, OfLink}
use Rattle.fwd_secure.specs.declared.handshakes.LinkHandshake.{LinkHandshake}
use Rattle.fwd_secure.specs.Handshakes.{Handshakes, at, with_entry, without_entry}
use Rattle.fwd_secure.specs.Kept.{is_given, is_of_conn, is_of_link, first_given, without_first_given}
use Rattle.fwd_theorem_keys.proofs.Maps.{Rising, at_with_same, at_with_other, at_without_same, at_without_other, at_without_was, with_rising, without_rising}
use Rattle.fwd_theorem_links.specs.DialedLinks.{KeepsApart}
use Rattle.fwd_theorem_recorded.specs.RenamedHandshakes.{renamed_kept}

abbrev pub LinkStates : Type 0
LinkStates = List (ℕ × LinkHandshake)

module _ (rename : ℕ → ℕ) (IsDialed : ℕ → Type 0) (apart : KeepsApart rename IsDialed) where
  abbrev pub KeptIsDialed : KeptBytes → Type 0
  KeptIsDialed (OfConn input conn bytes) = Unit {0}
  KeptIsDialed (OfLink link bytes) = IsDialed link.0

  abbrev pub AllKeptDialed : List KeptBytes → Type 0
  AllKeptDialed [] = Unit {0}
  AllKeptDialed (b ∷ kept) = KeptIsDialed b × AllKeptDialed kept

  abbrev pub renamed_all : List KeptBytes → List KeptBytes
  renamed_all kept = map (renamed_kept rename) kept

  -- the states of links by their numbers, and by the other numbers; and the kept bytes
  pub record AreRenamed (links : LinkStates) (kept : List KeptBytes) (others : LinkStates) : Type 0 where
    pub rising : Rising links
    pub rising_others : Rising others
    pub same : (link : ℕ) → at (rename link) others ≡ at link links
    pub dialed : (link : ℕ) (x : LinkHandshake) → at link links ≡ Some x → IsDialed link
    pub kept_dialed : AllKeptDialed kept

  -- the state with these states of its links, and kept bytes of the links with other numbers
  abbrev pub with_others : Handshakes → LinkStates → Handshakes
  with_others k others = record {
    listens = k.listens;
    held = k.held;
    joined = k.joined;
    links = others;
    kept = renamed_all k.kept;
    wrongs = k.wrongs;
  }

  -- ---- links

  differ : (a b : ℕ) → IsDialed a → a ≢ b → rename a ≢ rename b
  differ a b dialed ne is = ne (eqb-true a b (sym (apart a b dialed) ∙ eq-eqb (rename a) (rename b) is))

  back : (a b : ℕ) → a ≢ b → b ≢ a
  back a b ne is = ne (sym is)

  module _ (links : LinkStates) (kept : List KeptBytes) (others : LinkStates) (is : AreRenamed links kept others) where
    with_same : (a : ℕ) (x : LinkHandshake) → IsDialed a → (link : ℕ) → at (rename link) (with_entry (rename a) x others) ≡ at link (with_entry a x links)
    with_same a x dialed link = ⊎_elim
        (λ (e : link ≡ a). subst (λ (n : ℕ). at (rename n) (with_entry (rename a) x others) ≡ at n (with_entry a x links)) (sym e) (at_with_same (rename a) x others ∙ sym (at_with_same a x links)))
        (λ (ne : link ≢ a). at_with_other (rename link) (rename a) x others (back (rename a) (rename link) (differ a link dialed (back link a ne))) ∙ is.same link ∙ sym (at_with_other link a x links ne))
        (cases_eq link a)

    with_dialed : (a : ℕ) (x : LinkHandshake) → IsDialed a → (link : ℕ) (y : LinkHandshake) → at link (with_entry a x links) ≡ Some y → IsDialed link
    with_dialed a x dialed link y there = ⊎_elim
        (λ (e : link ≡ a). subst IsDialed (sym e) dialed)
        (λ (ne : link ≢ a). is.dialed link y (sym (at_with_other link a x links ne) ∙ there))
        (cases_eq link a)

    pub renamed_with : (a : ℕ) (x : LinkHandshake) → IsDialed a → AreRenamed (with_entry a x links) kept (with_entry (rename a) x others)
    renamed_with a x dialed = record {
      rising = with_rising a x links is.rising;
      rising_others = with_rising (rename a) x others is.rising_others;
      same = with_same a x dialed;
      dialed = with_dialed a x dialed;
      kept_dialed = is.kept_dialed;
    }

    -- what is no link of the run has no state
    gone : (a link : ℕ) → link ≢ a → (o : Option LinkHandshake) → at link links ≡ o → at (rename link) (without_entry (rename a) others) ≡ at link links
    gone a link ne None there = ⊎_elim
        (λ (e : rename link ≡ rename a). ap (λ (n : ℕ). at n (without_entry (rename a) others)) e ∙ at_without_same (rename a) others is.rising_others ∙ sym there)
        (λ (other : rename link ≢ rename a). at_without_other (rename link) (rename a) others other ∙ is.same link)
        (cases_eq (rename link) (rename a))
    gone a link ne (Some x) there = at_without_other (rename link) (rename a) others (differ link a (is.dialed link x there) ne) ∙ is.same link

    without_same : (a link : ℕ) → at (rename link) (without_entry (rename a) others) ≡ at link (without_entry a links)
    without_same a link = ⊎_elim
        (λ (e : link ≡ a). subst (λ (n : ℕ). at (rename n) (without_entry (rename a) others) ≡ at n (without_entry a links)) (sym e) (at_without_same (rename a) others is.rising_others ∙ sym (at_without_same a links is.rising)))
        (λ (ne : link ≢ a). gone a link ne (at link links) refl ∙ sym (at_without_other link a links ne))
        (cases_eq link a)

    pub renamed_without : (a : ℕ) → AreRenamed (without_entry a links) kept (without_entry (rename a) others)
    renamed_without a = record {
      rising = without_rising a links is.rising;
      rising_others = without_rising (rename a) others is.rising_others;
      same = without_same a;
      dialed = λ link x there. is.dialed link x (at_without_was link a links x is.rising there);
      kept_dialed = is.kept_dialed;
    }

    pub renamed_keeping : (more : List KeptBytes) → AllKeptDialed more → AreRenamed links more others
    renamed_keeping more dialed = record { rising = is.rising; rising_others = is.rising_others; same = is.same; dialed = is.dialed; kept_dialed = dialed }

  -- ---- kept bytes

  pub kept_append : (kept more : List KeptBytes) → AllKeptDialed kept → AllKeptDialed more → AllKeptDialed (kept ++ more)
  kept_append [] more all rest = rest
  kept_append (b ∷ kept) more all rest = (all.0, kept_append kept more all.1 rest)

  pub kept_filter : (test : KeptBytes → Bool) (kept : List KeptBytes) → AllKeptDialed kept → AllKeptDialed (filter test kept)
  kept_filter test [] all = tt
  kept_filter test (b ∷ kept) all = by (test b) (kept_filter test kept all.1)
    where
      by : (is : Bool) → AllKeptDialed (filter test kept) → AllKeptDialed (cond is (b ∷ filter test kept) (filter test kept))
      by true rest = (all.0, rest)
      by false rest = rest

  pub kept_without : (paused : ℕ) (kept : List KeptBytes) → AllKeptDialed kept → AllKeptDialed (without_first_given paused kept)
  kept_without paused [] all = tt
  kept_without paused (b ∷ kept) all = by (is_given paused b) (kept_without paused kept all.1)
    where
      by : (is : Bool) → AllKeptDialed (without_first_given paused kept) → AllKeptDialed (if is then kept else b ∷ without_first_given paused kept)
      by true rest = all.1
      by false rest = (all.0, rest)

  pub given_same : (paused : ℕ) (b : KeptBytes) → is_given paused (renamed_kept rename b) ≡ is_given paused b
  given_same paused (OfConn input conn bytes) = refl
  given_same paused (OfLink link bytes) = refl

  pub first_same : (paused : ℕ) (kept : List KeptBytes) → first_given paused (renamed_all kept) ≡ option_map (renamed_kept rename) (first_given paused kept)
  first_same paused [] = refl
  first_same paused (b ∷ kept) = by (is_given paused (renamed_kept rename b)) (is_given paused b) (given_same paused b) (first_same paused kept)
    where
      by : (is_new is : Bool) → is_new ≡ is → first_given paused (renamed_all kept) ≡ option_map (renamed_kept rename) (first_given paused kept)
          → (if is_new then Some (renamed_kept rename b) else first_given paused (renamed_all kept)) ≡ option_map (renamed_kept rename) (if is then Some b else first_given paused kept)
      by true true same rest = refl
      by false false same rest = rest
      by true false same rest = absurd (cc same)
      by false true same rest = absurd (cc same)

  pub without_given_same : (paused : ℕ) (kept : List KeptBytes) → without_first_given paused (renamed_all kept) ≡ renamed_all (without_first_given paused kept)
  without_given_same paused [] = refl
  without_given_same paused (b ∷ kept) = by (is_given paused (renamed_kept rename b)) (is_given paused b) (given_same paused b) (without_given_same paused kept)
    where
      by : (is_new is : Bool) → is_new ≡ is → without_first_given paused (renamed_all kept) ≡ renamed_all (without_first_given paused kept)
          → (if is_new then renamed_all kept else renamed_kept rename b ∷ without_first_given paused (renamed_all kept)) ≡ renamed_all (if is then kept else b ∷ without_first_given paused kept)
      by true true same rest = refl
      by false false same rest = ap (λ (l : List KeptBytes). renamed_kept rename b ∷ l) rest
      by true false same rest = absurd (cc same)
      by false true same rest = absurd (cc same)

  filtered : (p q : KeptBytes → Bool) (kept : List KeptBytes) → ((b : KeptBytes) → KeptIsDialed b → q (renamed_kept rename b) ≡ p b) → AllKeptDialed kept → filter q (renamed_all kept) ≡ renamed_all (filter p kept)
  filtered p q [] same all = refl
  filtered p q (b ∷ kept) same all = by (q (renamed_kept rename b)) (p b) (same b all.0) (filtered p q kept same all.1)
    where
      by : (is_new is : Bool) → is_new ≡ is → filter q (renamed_all kept) ≡ renamed_all (filter p kept)
          → cond is_new (renamed_kept rename b ∷ filter q (renamed_all kept)) (filter q (renamed_all kept)) ≡ renamed_all (cond is (b ∷ filter p kept) (filter p kept))
      by true true is rest = ap (λ (l : List KeptBytes). renamed_kept rename b ∷ l) rest
      by false false is rest = rest
      by true false is rest = absurd (cc is)
      by false true is rest = absurd (cc is)

  conn_test : (conn : ℕ) (b : KeptBytes) → not (is_of_conn conn (renamed_kept rename b)) ≡ not (is_of_conn conn b)
  conn_test conn (OfConn input other bytes) = refl
  conn_test conn (OfLink link bytes) = refl

  link_test : (link : ℕ) (b : KeptBytes) → KeptIsDialed b → not (is_of_link (rename link) (renamed_kept rename b)) ≡ not (is_of_link link b)
  link_test link (OfConn input conn bytes) dialed = refl
  link_test link (OfLink other bytes) dialed = ap not (apart other.0 link dialed)

  pub without_conn_same : (conn : ℕ) (kept : List KeptBytes) → AllKeptDialed kept → filter (λ bytes. not (is_of_conn conn bytes)) (renamed_all kept) ≡ renamed_all (filter (λ bytes. not (is_of_conn conn bytes)) kept)
  without_conn_same conn kept all = filtered (λ bytes. not (is_of_conn conn bytes)) (λ bytes. not (is_of_conn conn bytes)) kept (λ b dialed. conn_test conn b) all

  pub without_link_same : (link : ℕ) (kept : List KeptBytes) → AllKeptDialed kept → filter (λ bytes. not (is_of_link (rename link) bytes)) (renamed_all kept) ≡ renamed_all (filter (λ bytes. not (is_of_link link bytes)) kept)
  without_link_same link kept all = filtered (λ bytes. not (is_of_link link bytes)) (λ bytes. not (is_of_link (rename link) bytes)) kept (λ b dialed. link_test link b dialed) all
