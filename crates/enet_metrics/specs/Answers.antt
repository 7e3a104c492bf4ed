-- What a question is answered, by HTTP/1.1.
use Rattle.std.specs.Prelude.{ℕ, if◌then◌else◌, List, ◌++◌, codes, length}
use Rattle.std.specs.Fmt.{decimal}
use Rattle.enet_metrics.specs.declared.asking.Question.{Question}
use Rattle.enet_metrics.specs.declared.asking.Question.TheVariants.{Figures, Health, Other, OtherMethod, Unreadable}
use Rattle.enet_metrics.specs.declared.reading.Reading.{Reading}
use Rattle.enet_metrics.specs.Readings.{reading_text, is_alive}

unfoldable pub page_text : List ℕ → List ℕ → List ℕ
page_text status body =
    codes "HTTP/1.1 " ++ status ++ codes "\r\nContent-Type: text/plain; version=0.0.4; charset=utf-8\r\nContent-Length: " ++ decimal (length body)
    ++ codes "\r\nConnection: close\r\n\r\n" ++ body

unfoldable pub answer_text : Question → Reading → List ℕ
answer_text Figures r = page_text (codes "200 OK") (reading_text r)
answer_text Health r =
    if is_alive r then page_text (codes "200 OK") (codes "ok\n") else page_text (codes "503 Service Unavailable") (codes "the service hangs, or its clock cannot be read\n")
answer_text Other r = page_text (codes "404 Not Found") (codes "here are /metrics and /healthz\n")
answer_text OtherMethod r = page_text (codes "405 Method Not Allowed") (codes "GET alone\n")
answer_text Unreadable r = page_text (codes "400 Bad Request") (codes "no request\n")
