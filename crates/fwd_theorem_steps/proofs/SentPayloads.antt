-- What a flush sends, by the kind of its output.
use Rattle.std.proofs.Common.{◌≡◌, ℕ, ◌^◌, ◌<◌, true, false, List, length, Option, Some, refl, sym, ◌∙◌, ap, subst}
use Rattle.std.specs.Prelude.{◌↔◌}
use Rattle.fwd_out_text.specs.Payload.{PayloadForm}
use Rattle.fwd_flush.specs.FlushProgram.{Delivery}
use Rattle.fwd_flush.specs.declared.judgement.Judged.{Judged}
use Rattle.fwd_http.specs.Fields.{AreHeaderFields}
use Rattle.fwd_out_http.specs.Head.{IsJudged}
use Rattle.fwd_out_http.specs.Request.{IsUri, IsVisible, http_request}
use Rattle.fwd_out_http.proofs.Judgement.{judged_is, is_judged}
use Rattle.fwd_out_http.proofs.Requests.{reads_back}
use Rattle.fwd_settings.specs.declared.settings_types.AllSettings.{AllSettings}
use Rattle.fwd_settings.specs.declared.settings_types.HttpOptions.{HttpOptions}
use Rattle.fwd_settings.specs.declared.settings_types.OutputSet.{OutputSet}
use Rattle.fwd_settings.specs.declared.settings_types.OutputKind.{OutputKind}
use Rattle.fwd_settings.specs.declared.settings_types.OutputKind.TheVariants as output_kind
use Rattle.fwd_model.specs.Fact.{History, Route}
use Rattle.fwd_model.specs.Settings.{output_at}
use Rattle.fwd_model.specs.Routes.{begun}
use Rattle.fwd_model.specs.Payloads.{tag_of_chunk, delivery_to, delivery_at, delivery}
use Rattle.fwd_theorem_steps.specs.Payloads.{IsRequest, form_of, texts_of}

module _ (s : AllSettings) (h : History) (r : Route) (output : OutputSet) (at : output_at s r.output ≡ Some output) where
  abbrev sent : OutputKind → Delivery
  sent kind = delivery_to kind (tag_of_chunk h r.chunk) r (begun h r)

  sent_is : (kind : OutputKind) → output.kind ≡ kind → delivery s h r ≡ sent kind
  sent_is kind is = ap (λ (o : Option OutputSet). delivery_at o (tag_of_chunk h r.chunk) r (begun h r)) at ∙ ap sent is

  abbrev IsSent : PayloadForm → Delivery → Type 0
  IsSent form d = (d.payload ≡ texts_of h r form) × (d.wanted ≡ false)

  by_kind : (form : PayloadForm) (kind : OutputKind) → form_of kind ≡ Some form → IsSent form (sent kind)
  by_kind form (output_kind.Stdout own) is = let same : own ≡ form = cc is in (ap (λ (f : PayloadForm). texts_of h r f) same, refl)
  by_kind form (output_kind.File folder file own) is = let same : own ≡ form = cc is in (ap (λ (f : PayloadForm). texts_of h r f) same, refl)
  by_kind form (output_kind.Tcp host port own) is = let same : own ≡ form = cc is in (ap (λ (f : PayloadForm). texts_of h r f) same, refl)
  by_kind form (output_kind.Forward host port ack whole_time) is = absurd (cc is)
  by_kind form (output_kind.Http host port uri own options) is = absurd (cc is)

  texts_sent : (form : PayloadForm) → form_of output.kind ≡ Some form → IsSent form (delivery s h r)
  texts_sent form is = subst (IsSent form) (sym (sent_is output.kind refl)) (by_kind form output.kind is)

  module _ (host : List ℕ) (port : ℕ) (uri : List ℕ) (form : PayloadForm) (options : HttpOptions) (is : output.kind ≡ output_kind.Http host port uri form options) where
    request_sent : IsVisible host → IsUri uri → port < 2 ^ 16 → AreHeaderFields options.fields → length (texts_of h r form) < 2 ^ 64 → IsRequest (delivery s h r).payload uri (texts_of h r form)
    request_sent visible path small fields fits =
        let body = texts_of h r form in
        let back = reads_back host uri body port form.form options.fields visible path small fields fits in
        let whole : http_request host port uri form.form options.fields body ≡ (delivery s h r).payload = ap (λ (d : Delivery). d.payload) (sym (sent_is (output_kind.Http host port uri form options) is)) in
        subst (λ (payload : List ℕ). IsRequest payload uri body) whole (record { head = back.head; reads = back.reads; method = back.method; target = back.target })

    abbrev Judges : Delivery → Type 0
    Judges d = (d.wanted ≡ true) × ((reply : List ℕ) (judged : Judged) → (d.judged reply ≡ judged) ↔ IsJudged options.retried reply judged)

    replies_judged : Judges (delivery s h r)
    replies_judged = subst Judges (sym (sent_is (output_kind.Http host port uri form options) is))
        (refl, λ reply judged. (λ same. subst (IsJudged options.retried reply) same (judged_is options.retried reply), is_judged options.retried reply judged))

pub sends_texts : (s : AllSettings) (h : History) (r : Route) (output : OutputSet) (form : PayloadForm) → output_at s r.output ≡ Some output → form_of output.kind ≡ Some form
    → ((delivery s h r).payload ≡ texts_of h r form) × ((delivery s h r).wanted ≡ false)
sends_texts s h r output form at is = texts_sent s h r output at form is

pub sends_request : (s : AllSettings) (h : History) (r : Route) (output : OutputSet) (host : List ℕ) (port : ℕ) (uri : List ℕ) (form : PayloadForm) (options : HttpOptions)
    → output_at s r.output ≡ Some output → output.kind ≡ output_kind.Http host port uri form options
    → IsVisible host → IsUri uri → port < 2 ^ 16 → AreHeaderFields options.fields → length (texts_of h r form) < 2 ^ 64 → IsRequest (delivery s h r).payload uri (texts_of h r form)
sends_request s h r output host port uri form options at is = request_sent s h r output at host port uri form options is

pub judges_replies : (s : AllSettings) (h : History) (r : Route) (output : OutputSet) (host : List ℕ) (port : ℕ) (uri : List ℕ) (form : PayloadForm) (options : HttpOptions)
    → output_at s r.output ≡ Some output → output.kind ≡ output_kind.Http host port uri form options
    → ((delivery s h r).wanted ≡ true) × ((reply : List ℕ) (judged : Judged) → ((delivery s h r).judged reply ≡ judged) ↔ IsJudged options.retried reply judged)
judges_replies s h r output host port uri form options at is = replies_judged s h r output at host port uri form options is
