use Rattle.board_gen.proofs.ToldLaws.{told_joined, told_goes_on}
use Rattle.board_gen.proofs.told.answers_stay.Goals as goal

pub returns : goal.returns
returns c = record {
  answers = λ starts past xs ys h. (told_joined starts past xs ys h).answers;
  goes_on = λ starts past xs ys h. (told_joined starts past xs ys h).past;
  ends = λ starts past xs ys h. (told_joined starts past xs ys h).ending;
  keeps = told_goes_on;
}
