-- Lines that are told one by one.
use Rattle.std.proofs.Common.{◌≡◌, ℕ, ◌+◌, ◌<◌, ◌≤◌, List, [], ◌∷◌, length, get_or, drop, ◌++◌, refl, sym, ap, ◌∙◌, append_assoc}
use Rattle.std.proofs.lemmas.List.{drop_more, drop_all, append-nil}
use Rattle.enet_metrics.specs.Texts.{reason_text, reasons_from}
use Rattle.enet_metrics.specs.Trips.{bucket_text, buckets_from, capped, total_from}

-- the text with one piece more, and what is left
moved : (text piece rest new whole : List ℕ) → new ≡ text ++ piece → text ++ (piece ++ rest) ≡ whole → new ++ rest ≡ whole
moved text piece rest new whole e told = ap (λ (l : List ℕ). l ++ rest) e ∙ append_assoc text piece rest ∙ told

reasons-cons : (name letter : List ℕ) (number count : ℕ) (counts : List ℕ)
    → reasons_from name letter number (count ∷ counts) ≡ reason_text name letter number count ++ reasons_from name letter (number + 1) counts
unfolding reasons_from
reasons-cons name letter number count counts = refl

reasons-nil : (name letter : List ℕ) (number : ℕ) → reasons_from name letter number [] ≡ []
unfolding reasons_from
reasons-nil name letter number = refl

pub reason-more : (name letter counts text new whole : List ℕ) (i : ℕ) → i < length counts → new ≡ text ++ reason_text name letter (i + 1) (get_or counts i 0)
    → text ++ reasons_from name letter (i + 1) (drop i counts) ≡ whole → new ++ reasons_from name letter (i + 1 + 1) (drop (i + 1) counts) ≡ whole
reason-more name letter counts text new whole i inside e told =
    let rest : List ℕ = drop (i + 1) counts in
    let opened : reasons_from name letter (i + 1) (drop i counts) ≡ reason_text name letter (i + 1) (get_or counts i 0) ++ reasons_from name letter (i + 1 + 1) rest =
    ap (reasons_from name letter (i + 1)) (drop_more counts i 0 inside) ∙ reasons-cons name letter (i + 1) (get_or counts i 0) rest in
    moved text (reason_text name letter (i + 1) (get_or counts i 0)) (reasons_from name letter (i + 1 + 1) rest) new whole e
    (ap (λ (l : List ℕ). text ++ l) (sym opened) ∙ told)

pub reasons-done : (name letter counts text whole : List ℕ) (i : ℕ) → length counts ≤ i → text ++ reasons_from name letter (i + 1) (drop i counts) ≡ whole → text ≡ whole
reasons-done name letter counts text whole i past told =
    sym (append-nil text) ∙ ap (λ (l : List ℕ). text ++ l) (sym (ap (reasons_from name letter (i + 1)) (drop_all i counts past) ∙ reasons-nil name letter (i + 1))) ∙ told

buckets-cons : (bucket before count : ℕ) (counts : List ℕ)
    → buckets_from bucket before (count ∷ counts) ≡ bucket_text bucket (capped (before + count)) ++ buckets_from (bucket + 1) (capped (before + count)) counts
unfolding buckets_from
buckets-cons bucket before count counts = refl

buckets-nil : (bucket before : ℕ) → buckets_from bucket before [] ≡ []
unfolding buckets_from
buckets-nil bucket before = refl

total-cons : (before count : ℕ) (counts : List ℕ) → total_from before (count ∷ counts) ≡ total_from (capped (before + count)) counts
unfolding total_from
total-cons before count counts = refl

total-nil : (before : ℕ) → total_from before [] ≡ before
unfolding total_from
total-nil before = refl

pub bucket-more : (counts text new whole : List ℕ) (i before after : ℕ) → i < length counts → after ≡ capped (before + get_or counts i 0)
    → new ≡ text ++ bucket_text i after → text ++ buckets_from i before (drop i counts) ≡ whole → new ++ buckets_from (i + 1) after (drop (i + 1) counts) ≡ whole
bucket-more counts text new whole i before after inside added e told =
    let rest : List ℕ = drop (i + 1) counts in
    let opened : buckets_from i before (drop i counts) ≡ bucket_text i after ++ buckets_from (i + 1) after rest =
    ap (buckets_from i before) (drop_more counts i 0 inside) ∙ buckets-cons i before (get_or counts i 0) rest
    ∙ ap (λ (n : ℕ). bucket_text i n ++ buckets_from (i + 1) n rest) (sym added) in
    moved text (bucket_text i after) (buckets_from (i + 1) after rest) new whole e (ap (λ (l : List ℕ). text ++ l) (sym opened) ∙ told)

pub buckets-done : (counts text whole : List ℕ) (i before : ℕ) → length counts ≤ i → text ++ buckets_from i before (drop i counts) ≡ whole → text ≡ whole
buckets-done counts text whole i before past told =
    sym (append-nil text) ∙ ap (λ (l : List ℕ). text ++ l) (sym (ap (buckets_from i before) (drop_all i counts past) ∙ buckets-nil i before)) ∙ told

pub total-more : (counts : List ℕ) (i before after whole : ℕ) → i < length counts → after ≡ capped (before + get_or counts i 0)
    → total_from before (drop i counts) ≡ whole → total_from after (drop (i + 1) counts) ≡ whole
total-more counts i before after whole inside added told =
    ap (λ (n : ℕ). total_from n (drop (i + 1) counts)) added ∙ sym (total-cons before (get_or counts i 0) (drop (i + 1) counts))
    ∙ ap (total_from before) (sym (drop_more counts i 0 inside)) ∙ told

pub total-done : (counts : List ℕ) (i before whole : ℕ) → length counts ≤ i → total_from before (drop i counts) ≡ whole → before ≡ whole
total-done counts i before whole past told = sym (total-nil before) ∙ ap (total_from before) (sym (drop_all i counts past)) ∙ told
