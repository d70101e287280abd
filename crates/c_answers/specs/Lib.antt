pub mod InnerAnswers
