mod Readied
